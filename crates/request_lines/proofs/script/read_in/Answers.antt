use Rattle.request_lines.proofs.ScriptsRead.{read_read}
use Rattle.request_lines.proofs.script.read_in.Goals as goal

pub returns : goal.returns
returns c = read_read c.args.rest c.in_ok-view.left c.in_ok-view.view c.in_ok-view.ensures.0 c.in_ok-end.ensures
