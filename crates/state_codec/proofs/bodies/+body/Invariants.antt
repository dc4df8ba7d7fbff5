use Rattle.std.proofs.Common.{◌≡◌, ◌-◌, [], map}
use Rattle.agg_values.specs.Peels.{peeled_types}
use Rattle.value_types.specs.Folds.{chain_of, entry_of, tree_of, ty_of}
use Rattle.state_codec.specs.Reading.{body_at, entry_at, items_at}
use Rattle.state_codec.specs.proving.Views.{behind, with_front}
use Rattle.state_codec.proofs.bodies.+body.Given as goal

abbrev pub invariant-bodies_at-loop : goal.invariant-bodies_at-loop
invariant-bodies_at-loop l =
    with_front (map tree_of l.slots) (items_at (λ e. body_at l.from.version l.from.whole (chain_of l.chain) (peeled_types l.peels l.types)) (l.count - l.counter) (behind (map tree_of l.slots)) l.rest)
    ≡ items_at (λ e. body_at l.from.version l.from.whole (chain_of l.chain) (peeled_types l.peels l.types)) l.count [] l.bytes

abbrev pub invariant-entries_at-loop : goal.invariant-entries_at-loop
invariant-entries_at-loop l =
    with_front (map entry_of l.entries) (items_at (entry_at l.from.whole (ty_of l.key) (body_at l.from.version l.from.whole (chain_of l.chain) (peeled_types l.peels l.types))) (l.count - l.counter) (behind (map entry_of l.entries)) l.rest)
    ≡ items_at (entry_at l.from.whole (ty_of l.key) (body_at l.from.version l.from.whole (chain_of l.chain) (peeled_types l.peels l.types))) l.count [] l.bytes
