use Rattle.request_lines.proofs.Steps.{closing_fails}
use Rattle.request_lines.proofs.marks.skip_closing.Goals as goal

pub returns-in-None : goal.returns-in-None
returns-in-None c = closing_fails c.args.rest c.fault.result c.fault.ensures c.in-None.ensures.letters
