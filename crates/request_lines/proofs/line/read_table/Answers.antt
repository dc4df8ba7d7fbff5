use Rattle.request_lines.proofs.LinesTold.{table_told}
use Rattle.request_lines.proofs.line.read_table.Goals as goal

pub returns : goal.returns
returns c = table_told c.args.line.now c.of.result c.table_in.result c.of.ensures.0 c.of.ensures.1 c.table_in.ensures
