use Rattle.request_lines.proofs.ScriptsRead.{count_fails}
use Rattle.request_lines.proofs.numbers.read_count.Goals as goal

pub returns-in_default : goal.returns-in_default
returns-in_default c = count_fails c.args.rest c.fault.result c.fault.ensures c.in_default.ensures.letters
