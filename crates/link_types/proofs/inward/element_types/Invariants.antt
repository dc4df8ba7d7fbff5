use Rattle.std.proofs.Common.{◌≡◌, map, take}
use Rattle.value_types.specs.Folds.{ty_of}
use Rattle.agg_terms.specs.Types.{element}
use Rattle.link_types.proofs.inward.element_types.Given as goal

abbrev pub invariant-loop-ty : goal.invariant-loop-ty
invariant-loop-ty l = map ty_of l.inner ≡ map element (map ty_of (take l.ty-index l.types))
