use Rattle.std.proofs.Common.{◌≡◌, ◌++◌, Some, take, drop}
use Rattle.window_funnel.specs.proving.Starts.{with_event}
use Rattle.value_types.specs.Folds.{event_of}
use Rattle.window_funnel.proofs.starts.add_event.Given as goal

abbrev pub invariant-loop-i : goal.invariant-loop-i
invariant-loop-i l =
    take l.i l.starts ++ with_event l.window (event_of l.event) l.i l.shorter (drop l.i l.starts)
    ≡ with_event l.window (event_of l.event) 0 (Some l.event.time) l.initial.starts
