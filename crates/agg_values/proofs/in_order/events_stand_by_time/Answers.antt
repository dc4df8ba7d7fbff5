use Rattle.std.proofs.Common.{rules}
use Rattle.std.specs.Ordering.{is_le}
use Rattle.agg_terms.specs.Trees.{by_time}
use Rattle.value_types.specs.Folds.{event_of}
use Rattle.agg_values.proofs.Neighbours.{over, passed_at}
use Rattle.agg_values.proofs.in_order.events_stand_by_time.Goals as goal

pub loop-i-preserved : goal.loop-i-preserved
loop-i-preserved c =
    passed_at (λ x y. is_le (by_time (event_of x) (event_of y))) c.args.events.now c.loop-i.i (record { time = 0; mask = 0 }) c.loop-i.invariant c.loop-i.auto.i c.loop-i-test.true c.if-not-stand_by_time.ensures

pub returns : goal.returns
returns c = over (λ x y. is_le (by_time (event_of x) (event_of y))) c.args.events.now c.loop-i.i c.loop-i.invariant (search rules) (search rules)
