use Rattle.quick_rows.proofs.States.{hex_state}
use Rattle.quick_rows.proofs.state.front_state.Goals as goal

pub returns-in-Ok : goal.returns-in-Ok
returns-in-Ok g c =
    hex_state (g.R.StateReader.reads c.args.reader.now) c.args.ty.now c.args.text.now _ c.front_hex-count.result.1.now c.in-Ok.tree c.requires.state c.front_hex-count.ensures.front
    c.in-Ok.ensures.read c.in-Ok.ensures.fits
