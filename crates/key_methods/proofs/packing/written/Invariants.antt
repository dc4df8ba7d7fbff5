use Rattle.std.proofs.Common.{map, drop}
use Rattle.value_types.specs.Folds.{ty_of, value_of}
use Rattle.key_methods.specs.KeyBytes.{values_bytes}
use Rattle.key_methods.proofs.SideBySide.{Writing}
use Rattle.key_methods.proofs.packing.written.Given as goal

abbrev pub invariant-loop-i : goal.invariant-loop-i
invariant-loop-i l = Writing (drop l.i l.types) (drop l.i l.values) l.out.items (values_bytes (map ty_of l.types) (map value_of l.values))
