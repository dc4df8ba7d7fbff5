use Rattle.request_lines.proofs.ScriptsRead.{load_read}
use Rattle.request_lines.proofs.script.load_in.Goals as goal

pub returns : goal.returns
returns c = load_read c.args.rest c.in_ok-view.behind c.in_ok-count.left c.in_ok-view.view c.in_ok-count.count c.in_ok-view.ensures.0 c.in_ok-count.ensures.0 c.in_ok-end.ensures
