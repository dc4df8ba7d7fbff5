use Rattle.std.proofs.Common.{◌≡◌, ◌++◌, length, take, map}
use Rattle.std.specs.Prelude.{flat_map}
use Rattle.value_types.specs.Folds.{event_of}
use Rattle.state_texts.specs.Figures.{high}
use Rattle.state_texts.specs.Texts.{event_text}
use Rattle.state_texts.proofs.leaves.put_all_events.Given as goal

abbrev pub invariant-loop-event : goal.invariant-loop-event
invariant-loop-event l = l.out.items ≡ l.fn.out.items ++ (high 8 (length l.events) ++ flat_map (event_text) (map event_of (take l.event-index l.events)))
