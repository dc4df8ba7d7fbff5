use Rattle.std.proofs.Common.{◌≡◌, drop, map}
use Rattle.agg_terms.specs.Fitting.{are_apart}
use Rattle.agg_terms.specs.Order.{compare_rows}
use Rattle.value_types.specs.Folds.{value_of}
use Rattle.agg_values.proofs.in_order.rows_are_apart.Given as goal

-- the rows that are left decide
abbrev pub invariant-loop-i : goal.invariant-loop-i
invariant-loop-i l =
    are_apart (λ x y. compare_rows (map value_of x) (map value_of y)) (drop l.i l.rows) ≡ are_apart (λ x y. compare_rows (map value_of x) (map value_of y)) l.rows
