use Rattle.std.proofs.Common.{◌≡◌, drop, map, not}
use Rattle.std.specs.List.{list_all}
use Rattle.std.specs.Ordering.{is_eq}
use Rattle.agg_terms.specs.Order.{compare_rows}
use Rattle.value_types.specs.Folds.{value_of}
use Rattle.agg_values.proofs.in_order.row_is_apart.Given as goal

-- the others that are left decide
abbrev pub invariant-loop-i : goal.invariant-loop-i
invariant-loop-i l =
    list_all (λ y. not (is_eq (compare_rows (map value_of l.row) (map value_of y)))) (drop l.i l.others)
    ≡ list_all (λ y. not (is_eq (compare_rows (map value_of l.row) (map value_of y)))) l.others
