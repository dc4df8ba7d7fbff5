use Rattle.std.proofs.Common.{◌≡◌, ◌-◌, drop}
use Rattle.std.specs.Ordering.{is_le}
use Rattle.agg_terms.specs.Fitting.{neighbours}
use Rattle.agg_terms.specs.Order.{compare}
use Rattle.value_types.specs.Folds.{value_of}
use Rattle.agg_values.proofs.in_order.values_do_not_fall.Given as goal

-- the neighbours that are left decide
abbrev pub invariant-loop-i : goal.invariant-loop-i
invariant-loop-i l = neighbours (λ x y. is_le (compare (value_of x) (value_of y))) (drop (l.i - 1) l.items) ≡ neighbours (λ x y. is_le (compare (value_of x) (value_of y))) l.items
