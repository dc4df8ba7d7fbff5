use Rattle.request_lines.proofs.Steps.{name_fails}
use Rattle.request_lines.proofs.names.read_name.Goals as goal

pub returns-in_default : goal.returns-in_default
returns-in_default c = name_fails c.args.rest c.fault.result c.fault.ensures c.in_default.ensures.letters
