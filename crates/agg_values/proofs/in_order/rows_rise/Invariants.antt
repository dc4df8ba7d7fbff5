use Rattle.std.proofs.Common.{◌≡◌, ◌-◌, drop, map}
use Rattle.std.specs.Ordering.{is_lt}
use Rattle.agg_terms.specs.Fitting.{neighbours}
use Rattle.agg_terms.specs.Order.{compare_rows}
use Rattle.value_types.specs.Folds.{value_of}
use Rattle.agg_values.proofs.in_order.rows_rise.Given as goal

-- the neighbours that are left decide
abbrev pub invariant-loop-i : goal.invariant-loop-i
invariant-loop-i l = neighbours (λ x y. is_lt (compare_rows (map value_of x) (map value_of y))) (drop (l.i - 1) l.rows) ≡ neighbours (λ x y. is_lt (compare_rows (map value_of x) (map value_of y))) l.rows
