use Rattle.std.proofs.Common.{length, ◌-◌, refl}
use Rattle.value_types.specs.Folds.{value_of}
use Rattle.plain_meaning.proofs.Fronts.{front-take}
use Rattle.plain_meaning.proofs.passed.front.Goals as goal

pub returns-in-len1-up : goal.returns-in-len1-up
returns-in-len1-up c = front-take value_of c.args.row.now (length c.args.row.now - 1) refl
