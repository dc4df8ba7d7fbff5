use Rattle.std.proofs.Common.{refl}
use Rattle.quick_rows.proofs.Steps.{stepped_keep, stepped_over, stepped_state}
use Rattle.quick_rows.proofs.kept.step_first.Goals as goal

pub returns-in-Keep : goal.returns-in-Keep
returns-in-Keep g c =
    stepped_keep (g.R.StateReader.reads c.args.reader.now) c.args.step c.args.ty.now _ _ _ _ c.args.text.now c.index_mut.result.now c.keep_first.new.column c.keep_first.result c.in-Keep.is c.index_mut.ensures.value refl refl c.keep_first.ensures

pub returns-in-State : goal.returns-in-State
returns-in-State g c = stepped_state (g.R.StateReader.reads c.args.reader.now) c.args.step c.args.ty.now _ _ _ _ c.args.text.now c.walk_state.result c.in-State.is refl refl c.walk_state.ensures

pub returns-in_default : goal.returns-in_default
returns-in_default g c = stepped_over (g.R.StateReader.reads c.args.reader.now) c.args.step c.args.ty.now _ _ _ _ c.args.text.now c.walk_first.result refl refl c.walk_first.ensures
