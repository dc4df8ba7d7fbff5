use Rattle.std.proofs.Common.{◌≡◌, ◌-◌, map, []}
use Rattle.state_codec.specs.Reading.{items_at, value_at, pair_at}
use Rattle.value_types.specs.Folds.{ty_of, value_of}
use Rattle.state_codec.specs.proving.Views.{behind, pair_view, with_front}
use Rattle.state_codec.proofs.values.+value.Given as goal

abbrev pub invariant-values_at-loop : goal.invariant-values_at-loop
invariant-values_at-loop l =
    with_front (map value_of l.items) (items_at (λ e. value_at l.whole (ty_of l.ty)) (l.count - l.counter) (behind (map value_of l.items)) l.rest)
    ≡ items_at (λ e. value_at l.whole (ty_of l.ty)) l.count [] l.bytes

abbrev pub invariant-all_pairs_at-loop : goal.invariant-all_pairs_at-loop
invariant-all_pairs_at-loop l =
    with_front (map pair_view l.pairs) (items_at (λ e. pair_at l.whole (ty_of l.ty)) (l.count - l.counter) (behind (map pair_view l.pairs)) l.rest)
    ≡ items_at (λ e. pair_at l.whole (ty_of l.ty)) l.count [] l.bytes
