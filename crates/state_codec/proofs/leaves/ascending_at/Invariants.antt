use Rattle.std.proofs.Common.{◌≡◌, ◌-◌, [], map}
use Rattle.agg_terms.specs.Order.{compare}
use Rattle.value_types.specs.Folds.{ty_of, value_of}
use Rattle.state_codec.specs.Reading.{holds_up, items_at, kept_at, value_at}
use Rattle.state_codec.specs.proving.Views.{behind, with_front}
use Rattle.state_codec.proofs.leaves.ascending_at.Given as goal

abbrev pub invariant-loop : goal.invariant-loop
invariant-loop l =
    with_front (map value_of l.items) (items_at (λ e. kept_at l.whole (holds_up compare e) (value_at l.whole (ty_of l.ty))) (l.count - l.counter) (behind (map value_of l.items)) l.rest)
    ≡ items_at (λ e. kept_at l.whole (holds_up compare e) (value_at l.whole (ty_of l.ty))) l.count [] l.bytes
