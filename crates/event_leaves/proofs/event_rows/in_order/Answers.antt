use Rattle.std.proofs.Common.{map, sym, subst, take}
use Rattle.agg_terms.specs.Lists.{NotFalling}
use Rattle.agg_terms.specs.Trees.{by_time}
use Rattle.value_types.specs.Folds.{event_of}
use Rattle.window_funnel.specs.Conditions.{cut_to}
use Rattle.event_leaves.proofs.EventLists.{ordered_more}
use Rattle.event_leaves.proofs.InOrder as lists
use Rattle.event_leaves.proofs.event_rows.in_order.Goals as goal

pub insert-requires : goal.insert-requires
insert-requires c =
    subst (NotFalling by_time) (sym c.loop-event.invariant) (lists.in_order (map (cut_to c.args.conditions) (map event_of (take c.loop-event.event-index c.args.events.now))))

pub loop-event-preserved : goal.loop-event-preserved
loop-event-preserved c =
    ordered_more c.args.conditions c.loop-event.all.items c.insert.new.events.items c.args.events.now c.loop-event.event-index _ c.cut.result c.loop-event.invariant c.loop-event-test.true c.cut.ensures c.in_ok-insert.ensures.ok
