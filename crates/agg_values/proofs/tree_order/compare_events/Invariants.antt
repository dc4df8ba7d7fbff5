use Rattle.std.proofs.Common.{◌≡◌, drop}
use Rattle.std.specs.Cmp.Lexicographic.{slice_cmp}
use Rattle.agg_terms.specs.Order.{event_cmp}
use Rattle.value_types.specs.Folds.{event_of}
use Rattle.agg_values.proofs.tree_order.compare_events.Given as goal

-- what is left decides
abbrev pub invariant-loop-i : goal.invariant-loop-i
invariant-loop-i l = slice_cmp (λ x y. event_cmp (event_of x) (event_of y)) (drop l.i l.a) (drop l.i l.b) ≡ slice_cmp (λ x y. event_cmp (event_of x) (event_of y)) l.a l.b
