use Rattle.request_lines.proofs.LinesTold.{table_read}
use Rattle.request_lines.proofs.line.table_in.Goals as goal

pub returns : goal.returns
returns c = table_read c.args.rest c.in_ok-columns.columns c.in_ok-columns-2.left c.in_ok-columns-2.columns c.in_ok-columns.ensures.0 c.in_ok-columns-2.ensures.0 c.in_ok-end.ensures
