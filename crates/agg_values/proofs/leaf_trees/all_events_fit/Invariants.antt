use Rattle.std.proofs.Common.{◌≡◌, drop}
use Rattle.std.specs.List.{list_all}
use Rattle.agg_terms.specs.Fitting.{is_event}
use Rattle.value_types.specs.Folds.{event_of}
use Rattle.agg_values.proofs.leaf_trees.all_events_fit.Given as goal

-- the events that are left decide
abbrev pub invariant-loop-i : goal.invariant-loop-i
invariant-loop-i l = list_all (λ e. is_event l.conditions (event_of e)) (drop l.i l.events) ≡ list_all (λ e. is_event l.conditions (event_of e)) l.events
