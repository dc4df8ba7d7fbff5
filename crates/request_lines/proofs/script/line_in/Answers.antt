use Rattle.request_lines.proofs.ScriptsRead.{line_fails}
use Rattle.request_lines.proofs.script.line_in.Goals as goal

pub returns-in_default : goal.returns-in_default
returns-in_default c = line_fails c.args.rest c.fault.result c.fault.ensures c.in_default.ensures.letters
