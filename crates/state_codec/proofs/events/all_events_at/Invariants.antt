use Rattle.std.proofs.Common.{◌≡◌, ◌-◌, [], map}
use Rattle.value_types.specs.Folds.{event_of}
use Rattle.state_codec.specs.Reading.{event_at, is_event, items_at, kept_at}
use Rattle.state_codec.specs.proving.Views.{behind, with_front}
use Rattle.state_codec.proofs.events.all_events_at.Given as goal

abbrev pub invariant-loop : goal.invariant-loop
invariant-loop l =
    with_front (map event_of l.events) (items_at (λ e. kept_at l.whole (is_event l.conditions e) event_at) (l.count - l.counter) (behind (map event_of l.events)) l.rest)
    ≡ items_at (λ e. kept_at l.whole (is_event l.conditions e) event_at) l.count [] l.bytes
