use Rattle.std.proofs.Common.{sym}
use Rattle.script_text.proofs.Places.{in_place, wrong_place}
use Rattle.script_text.proofs.forms.read_form.Goals as goal

pub returns-in-Some : goal.returns-in-Some
returns-in-Some c = wrong_place c.args.started c.args.line.now c.in-Some.at (sym c.in-Some.ensures)

pub returns-in-None : goal.returns-in-None
returns-in-None c = in_place c.args.started c.args.line.now c.read_script_line.result (sym c.in-None.ensures) c.read_script_line.ensures
