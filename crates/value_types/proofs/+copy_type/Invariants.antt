use Rattle.std.proofs.Common.{◌≡◌, take}
use Rattle.value_types.proofs.+copy_type.Given as goal

abbrev pub invariant-type_copies::copy_types-loop-ty :
    goal.invariant-type_copies::copy_types-loop-ty
invariant-type_copies::copy_types-loop-ty l = l.copied ≡ take l.ty-index l.types
