use Rattle.std.proofs.Common.{◌≡◌, ◌+◌, ◌*◌, take}
use Rattle.typed_columns.specs.Items.{item_value, span_values, pair_span_values}
use Rattle.typed_columns.proofs.ValueHeights.{value_height, list_height, entries_height}
use Rattle.typed_columns.proofs.item.+own.Given as goal

abbrev pub invariant-Span::to_values-loop-place : goal.invariant-Span::to_values-loop-place
invariant-Span::to_values-loop-place l = l.values ≡ take l.place (span_values l.self)

abbrev pub invariant-PairSpan::to_pairs-loop-place : goal.invariant-PairSpan::to_pairs-loop-place
invariant-PairSpan::to_pairs-loop-place l = l.pairs ≡ take l.place (pair_span_values l.self)

abbrev pub decreases-Item::to_value : goal.decreases-Item::to_value
decreases-Item::to_value l = 2 * value_height (item_value l.self.now)

abbrev pub decreases-Span::to_values : goal.decreases-Span::to_values
decreases-Span::to_values l = 2 * list_height (span_values l.self.now) + 1

abbrev pub decreases-PairSpan::to_pairs : goal.decreases-PairSpan::to_pairs
decreases-PairSpan::to_pairs l = 2 * entries_height (pair_span_values l.self.now) + 1
