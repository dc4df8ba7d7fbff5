use Rattle.std.proofs.Common.{◌≡◌, drop, map}
use Rattle.std.specs.List.{list_all}
use Rattle.value_types.specs.Folds.{ty_of}
use Rattle.group_keys.specs.proving.Placed.{is_unsigned}
use Rattle.group_keys.proofs.signs.are_unsigned.Given as goal

abbrev pub invariant-loop-ty : goal.invariant-loop-ty
invariant-loop-ty l = list_all is_unsigned (map ty_of (drop l.ty-index l.types)) ≡ list_all is_unsigned (map ty_of l.types)
