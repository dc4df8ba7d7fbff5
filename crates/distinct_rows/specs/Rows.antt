-- Rows of which each is the first of its kind, in their order.
use Rattle.std.specs.Prelude.{◌≡◌, List, map}
use Rattle.agg_terms.specs.Order.{compare_rows, firsts}
use Rattle.agg_terms.specs.Values.{Value}
use Rattle.set_leaves.specs.Tuples.{values_tuple}
use Rattle.distinct_rows.specs.declared.rows.DistinctRows.{DistinctRows}

-- the rows that are kept
abbrev pub rows_in : DistinctRows → List (List Value)
rows_in d = map (λ t. values_tuple t.values) d.rows.keys

-- no two of them are the same
abbrev pub AreFirsts : List (List Value) → Type 0
AreFirsts rows = firsts compare_rows rows ≡ rows
