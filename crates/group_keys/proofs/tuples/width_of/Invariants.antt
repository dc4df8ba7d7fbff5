use Rattle.std.proofs.Common.{◌≡◌, ◌+◌, drop, map}
use Rattle.value_types.specs.Folds.{ty_of}
use Rattle.key_methods.specs.Kinds.{total_width}
use Rattle.group_keys.proofs.tuples.width_of.Given as goal

abbrev pub invariant-loop-ty : goal.invariant-loop-ty
invariant-loop-ty l = l.width + total_width (map ty_of (drop l.ty-index l.types)) ≡ total_width (map ty_of l.types)
