use Rattle.std.proofs.Common.{◌≡◌, ◌++◌, map, drop}
use Rattle.value_types.specs.Folds.{ty_of, value_of}
use Rattle.key_methods.specs.proving.Fronts.{values_front}
use Rattle.key_methods.specs.Kinds.{AreKeyTypes}
use Rattle.key_methods.proofs.unpacking.read_values.Given as goal

abbrev pub invariant-loop-ty : goal.invariant-loop-ty
invariant-loop-ty l =
    record {
      read : map value_of l.values ++ values_front (map ty_of (drop l.ty-index l.types)) l.left ≡ values_front (map ty_of l.types) l.bytes;
      types : AreKeyTypes (drop l.ty-index l.types);
    }
