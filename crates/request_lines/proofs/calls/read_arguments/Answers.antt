use Rattle.request_lines.proofs.CallsRead.{arguments_told}
use Rattle.request_lines.proofs.calls.read_arguments.Goals as goal

pub returns-in-None : goal.returns-in-None
returns-in-None c = arguments_told c.args.rest c.read_closed_names.result c.in-None.ensures.letters c.read_closed_names.ensures
