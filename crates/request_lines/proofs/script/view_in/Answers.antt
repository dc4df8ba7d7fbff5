use Rattle.request_lines.proofs.ScriptsRead.{view_read}
use Rattle.request_lines.proofs.script.view_in.Goals as goal

pub returns : goal.returns
returns c = view_read c.args.rest c.in_ok-name.behind c.in_ok-select.left c.in_ok-name.name c.in_ok-select.select c.in_ok-name.ensures.0 c.in_ok-select.ensures.0 c.in_ok-end.ensures
