use Rattle.request_lines.proofs.ScriptsRead.{insert_read}
use Rattle.request_lines.proofs.script.insert_in.Goals as goal

pub returns : goal.returns
returns c = insert_read c.args.rest c.in_ok-count.left c.in_ok-count.count c.in_ok-count.ensures.0 c.in_ok-end.ensures
