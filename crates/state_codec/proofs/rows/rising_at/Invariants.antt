use Rattle.std.proofs.Common.{◌≡◌, ◌-◌, [], map}
use Rattle.agg_terms.specs.Order.{compare_rows}
use Rattle.agg_values.specs.Peels.{peeled_types}
use Rattle.value_types.specs.Folds.{value_of}
use Rattle.state_codec.specs.Reading.{rises, items_at, kept_at, row_at}
use Rattle.state_codec.specs.proving.Views.{behind, with_front}
use Rattle.state_codec.proofs.rows.rising_at.Given as goal

abbrev pub invariant-loop : goal.invariant-loop
invariant-loop l =
    with_front (map (map value_of) l.rows) (items_at (λ e. kept_at l.whole (rises compare_rows e) (row_at l.whole (peeled_types l.peels l.types))) (l.count - l.counter) (behind (map (map value_of) l.rows)) l.rest)
    ≡ items_at (λ e. kept_at l.whole (rises compare_rows e) (row_at l.whole (peeled_types l.peels l.types))) l.count [] l.bytes
