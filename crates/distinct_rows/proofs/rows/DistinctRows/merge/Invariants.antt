-- Measures and loop invariants of distinct_rows::rows::DistinctRows::merge.
use Rattle.std.proofs.Common.{◌≡◌, ◌++◌, map, take}
use Rattle.agg_terms.specs.Order.{compare_rows, firsts}
use Rattle.set_leaves.specs.Tuples.{values_tuple}
use Rattle.distinct_rows.specs.Rows.{rows_in}
use Rattle.distinct_rows.proofs.rows.DistinctRows.merge.Given as goal

abbrev pub invariant-loop-i : goal.invariant-loop-i
invariant-loop-i l = rows_in l.self ≡ firsts compare_rows (rows_in l.fn.self ++ map (λ t. values_tuple t.values) (take l.i l.rows))
