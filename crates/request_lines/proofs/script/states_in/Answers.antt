use Rattle.request_lines.proofs.ScriptsRead.{states_read}
use Rattle.request_lines.proofs.script.states_in.Goals as goal

pub returns : goal.returns
returns c = states_read c.args.rest c.in_ok-view.left c.in_ok-view.view c.in_ok-view.ensures.0 c.in_ok-end.ensures
