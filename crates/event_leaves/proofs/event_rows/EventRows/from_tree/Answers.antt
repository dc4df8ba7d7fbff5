use Rattle.std.proofs.Common.{map, ap, ◌∙◌}
use Rattle.agg_terms.specs.Order.{ascending}
use Rattle.agg_terms.specs.Trees.{by_time}
use Rattle.value_types.specs.Folds.{tree_of}
use Rattle.window_funnel.specs.Conditions.{cut_to}
use Rattle.event_leaves.proofs.EventStates.{kept_stored}
use Rattle.event_leaves.proofs.event_rows.EventRows.from_tree.Goals as goal

pub invariant_of-result : goal.invariant_of-result
invariant_of-result c =
    kept_stored c.args.conditions (tree_of c.args.tree.now) _ _ c.requires.some c.requires.most c.holds_rows.ensures
    (c.in_ok-in_order.ensures ∙ ap (λ l. ascending by_time (map (cut_to c.args.conditions) l)) c.tree_events.ensures)
