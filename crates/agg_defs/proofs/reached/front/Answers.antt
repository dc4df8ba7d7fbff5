use Rattle.std.proofs.Common.{length, ◌-◌, refl}
use Rattle.value_types.specs.Folds.{ty_of}
use Rattle.agg_defs.proofs.Front.{front-take}
use Rattle.agg_defs.proofs.reached.front.Goals as goal

pub returns-in-len1-up : goal.returns-in-len1-up
returns-in-len1-up c = front-take (λ a. ty_of a.ty.now) c.args.args.now (length c.args.args.now - 1) refl
