-- Measures and loop invariants of distinct_rows::rows::DistinctRows::rows.
use Rattle.std.proofs.Common.{◌≡◌, map, take}
use Rattle.set_leaves.specs.Tuples.{values_tuple}
use Rattle.value_types.specs.Folds.{value_of}
use Rattle.distinct_rows.proofs.rows.DistinctRows.rows.Given as goal

abbrev pub invariant-loop-i : goal.invariant-loop-i
invariant-loop-i l = map (map value_of) l.rows ≡ map (λ t. values_tuple t.values) (take l.i l.kept)
