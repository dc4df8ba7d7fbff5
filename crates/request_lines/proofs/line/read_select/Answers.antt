use Rattle.request_lines.proofs.LinesTold.{select_told}
use Rattle.request_lines.proofs.line.read_select.Goals as goal

pub returns : goal.returns
returns c = select_told c.args.line.now c.of.result c.select_in.result c.of.ensures.0 c.of.ensures.1 c.select_in.ensures
