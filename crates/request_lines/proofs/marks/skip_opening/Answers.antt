use Rattle.request_lines.proofs.Steps.{opening_fails}
use Rattle.request_lines.proofs.marks.skip_opening.Goals as goal

pub returns-in-None : goal.returns-in-None
returns-in-None c = opening_fails c.args.rest c.fault.result c.fault.ensures c.in-None.ensures.letters
