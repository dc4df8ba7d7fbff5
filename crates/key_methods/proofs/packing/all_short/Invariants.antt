use Rattle.std.proofs.Common.{map, drop}
use Rattle.value_types.specs.Folds.{value_of}
use Rattle.key_methods.specs.KeyBytes.{AreShort}
use Rattle.key_methods.proofs.packing.all_short.Given as goal

-- the values that are left decide
abbrev pub invariant-loop-value : goal.invariant-loop-value
invariant-loop-value l = AreShort (map value_of (drop l.value-index l.values)) → AreShort (map value_of l.values)
