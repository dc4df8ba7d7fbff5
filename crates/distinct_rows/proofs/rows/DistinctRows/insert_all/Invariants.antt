-- Measures and loop invariants of distinct_rows::rows::DistinctRows::insert_all.
use Rattle.std.proofs.Common.{◌≡◌, ◌++◌, map, take}
use Rattle.agg_terms.specs.Order.{compare_rows, firsts}
use Rattle.value_types.specs.Folds.{value_of}
use Rattle.distinct_rows.specs.Rows.{rows_in}
use Rattle.distinct_rows.proofs.rows.DistinctRows.insert_all.Given as goal

abbrev pub invariant-loop-i : goal.invariant-loop-i
invariant-loop-i l = rows_in l.self ≡ firsts compare_rows (rows_in l.fn.self ++ map (map value_of) (take l.i l.rows))
