use Rattle.std.proofs.Common.{map, drop}
use Rattle.value_types.specs.Folds.{ty_of, value_of}
use Rattle.key_methods.specs.KeyBytes.{values_bytes}
use Rattle.key_methods.specs.Kinds.{total_width}
use Rattle.key_methods.proofs.SideBySide.{Packing}
use Rattle.key_methods.proofs.packing.side_by_side.Given as goal

abbrev pub invariant-loop-i : goal.invariant-loop-i
invariant-loop-i l =
    Packing (map ty_of (drop l.i l.types)) (map value_of (drop l.i l.values)) l.packed.word l.packed.width (total_width (map ty_of l.types)) (values_bytes (map ty_of l.types) (map value_of l.values))
