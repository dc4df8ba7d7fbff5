use Rattle.std.proofs.Common.{◌≡◌, ◌-◌, []}
use Rattle.agg_terms.specs.Order.{compare_rows}
use Rattle.agg_values.specs.Peels.{peeled_types}
use Rattle.state_codec.specs.Reading.{is_new, items_at, kept_at, row_at}
use Rattle.state_codec.specs.proving.Views.{behind, kept_rows, with_front}
use Rattle.state_codec.proofs.distinct.apart_at.Given as goal

abbrev pub invariant-loop : goal.invariant-loop
invariant-loop l =
    with_front (kept_rows l.seen.keys) (items_at (λ e. kept_at l.whole (is_new compare_rows e) (row_at l.whole (peeled_types l.peels l.types))) (l.count - l.counter) (behind (kept_rows l.seen.keys)) l.rest)
    ≡ items_at (λ e. kept_at l.whole (is_new compare_rows e) (row_at l.whole (peeled_types l.peels l.types))) l.count [] l.bytes
