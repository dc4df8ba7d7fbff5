use Rattle.std.proofs.Common.{◌≡◌, ◌-◌, drop}
use Rattle.std.specs.Ordering.{is_lt}
use Rattle.agg_terms.specs.Fitting.{neighbours}
use Rattle.agg_terms.specs.Order.{compare}
use Rattle.value_types.specs.Folds.{entry_of}
use Rattle.agg_values.proofs.in_order.keys_rise.Given as goal

-- the neighbours that are left decide
abbrev pub invariant-loop-i : goal.invariant-loop-i
invariant-loop-i l = neighbours (λ x y. is_lt (compare (entry_of x).0 (entry_of y).0)) (drop (l.i - 1) l.entries) ≡ neighbours (λ x y. is_lt (compare (entry_of x).0 (entry_of y).0)) l.entries
