use Rattle.std.proofs.Common.{◌++◌, map, sym, ap, ◌∙◌}
use Rattle.agg_terms.specs.Order.{ascending}
use Rattle.agg_terms.specs.Trees.{by_time}
use Rattle.value_types.specs.Folds.{event_of}
use Rattle.event_leaves.proofs.EventStates.{kept_joined}
use Rattle.event_leaves.proofs.event_rows.EventRows.merge.Goals as goal

pub invariant_of-self-2 : goal.invariant_of-self-2
invariant_of-self-2 c =
    kept_joined _ _ _ c.self.invariant c.later.invariant (ap (λ z. z.conditions) c.self.view_is ∙ c.requires ∙ sym (ap (λ z. z.conditions) c.later.view_is))
    (c.in_ok-merge.ensures.ok ∙ ap (λ s. ascending by_time (map event_of c.self.inside.events.items ++ map event_of s)) c.as_slice.ensures.value)
