use Rattle.std.proofs.Common.{length, map, drop}
use Rattle.agg_meaning.specs.Events.{funnel_level}
use Rattle.value_types.specs.Folds.{event_of}
use Rattle.window_funnel.specs.Conditions.{cut_to}
use Rattle.window_funnel.proofs.Cuts.{GoingCut}
use Rattle.window_funnel.proofs.funnel.level_from.Given as goal

abbrev pub invariant-loop-event : goal.invariant-loop-event
invariant-loop-event l =
    GoingCut l.window l.strict (length l.initial.starts) (funnel_level l.window l.strict (map (cut_to (length l.initial.starts)) (map event_of l.events))) (event_of l.waiting) l.starts (map event_of (drop l.event-index l.events))
