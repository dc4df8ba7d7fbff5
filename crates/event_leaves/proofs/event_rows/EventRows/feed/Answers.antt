use Rattle.value_types.specs.Folds.{event_of}
use Rattle.event_leaves.proofs.EventStates.{kept_fed}
use Rattle.event_leaves.proofs.event_rows.EventRows.feed.Goals as goal

pub invariant_of-self-2 : goal.invariant_of-self-2
invariant_of-self-2 c = kept_fed _ (event_of c.event-event.result) _ c.self.invariant c.event-event.ensures.in_range c.in_ok-add.ensures.ok
