use Rattle.std.proofs.Common.{◌≡◌, map, take}
use Rattle.agg_terms.specs.Order.{ascending}
use Rattle.agg_terms.specs.Trees.{by_time}
use Rattle.value_types.specs.Folds.{event_of}
use Rattle.window_funnel.specs.Conditions.{cut_to}
use Rattle.event_leaves.proofs.event_rows.in_order.Given as goal

-- the events so far are by time
abbrev pub invariant-loop-event : goal.invariant-loop-event
invariant-loop-event l = map event_of l.all.items ≡ ascending by_time (map (cut_to l.conditions) (map event_of (take l.event-index l.events)))
