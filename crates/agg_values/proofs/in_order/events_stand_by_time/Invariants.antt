use Rattle.std.proofs.Common.{◌≡◌, ◌-◌, drop}
use Rattle.std.specs.Ordering.{is_le}
use Rattle.agg_terms.specs.Fitting.{neighbours}
use Rattle.agg_terms.specs.Trees.{by_time}
use Rattle.value_types.specs.Folds.{event_of}
use Rattle.agg_values.proofs.in_order.events_stand_by_time.Given as goal

-- the neighbours that are left decide
abbrev pub invariant-loop-i : goal.invariant-loop-i
invariant-loop-i l = neighbours (λ x y. is_le (by_time (event_of x) (event_of y))) (drop (l.i - 1) l.events) ≡ neighbours (λ x y. is_le (by_time (event_of x) (event_of y))) l.events
