use Rattle.request_lines.proofs.LinesTold.{script_told}
use Rattle.request_lines.proofs.line.read_script_line.Goals as goal

pub returns : goal.returns
returns c = script_told c.args.line.now c.of.result c.line_in.result c.of.ensures.0 c.of.ensures.1 c.line_in.ensures
