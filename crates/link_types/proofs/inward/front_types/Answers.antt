use Rattle.std.proofs.Common.{length, ◌-◌, refl}
use Rattle.value_types.specs.Folds.{ty_of}
use Rattle.link_types.proofs.Fronts.{front-take}
use Rattle.link_types.proofs.inward.front_types.Goals as goal

pub returns-in-len1-up : goal.returns-in-len1-up
returns-in-len1-up c = front-take ty_of c.args.types.now (length c.args.types.now - 1) refl
