-- Measures and loop invariants of the cycle of chain_links::feeding::feed.
use Rattle.std.proofs.Common.{◌≤◌, map, take, length}
use Rattle.agg_terms.specs.Lists.{Each}
use Rattle.agg_meaning.specs.Feeds.{tuples}
use Rattle.typed_columns.specs.Items.{pair_span_values, span_values}
use Rattle.value_types.specs.Folds.{chain_of, ty_of}
use Rattle.row_parts.specs.Rows.{arguments, element_rows, pair_rows, pair_value}
use Rattle.running_states.specs.Shapes.{AreEntries, IsState}
use Rattle.chain_links.specs.proving.Words.{FeedsAll, FeedsKeys, FeedsPlaces}
use Rattle.chain_links.proofs.+feed.Given as goal

abbrev pub invariant-elements::feed_span-loop-i : goal.invariant-elements::feed_span-loop-i
invariant-elements::feed_span-loop-i l =
    IsState (chain_of l.of) (map ty_of l.types) l.state × FeedsAll (chain_of l.of) (map ty_of l.types) (take l.i (element_rows (span_values l.elements))) l.fn.state l.state

abbrev pub invariant-elements::feed_tuples-loop-i : goal.invariant-elements::feed_tuples-loop-i
invariant-elements::feed_tuples-loop-i l =
    IsState (chain_of l.of) (map ty_of l.types) l.state × FeedsAll (chain_of l.of) (map ty_of l.types) (take l.i (tuples (arguments l.row))) l.fn.state l.state

abbrev pub invariant-places::feed_span-loop-i : goal.invariant-places::feed_span-loop-i
invariant-places::feed_span-loop-i l =
    (l.i ≤ length l.slots.items)
    × Each (IsState (chain_of l.of) (map ty_of l.types)) l.slots.items
    × FeedsPlaces (chain_of l.of) (map ty_of l.types) (element_rows (span_values l.elements)) l.i l.fn.slots.items l.slots.items

abbrev pub invariant-places::feed_tuples-loop-i : goal.invariant-places::feed_tuples-loop-i
invariant-places::feed_tuples-loop-i l =
    (l.i ≤ length l.slots.items)
    × Each (IsState (chain_of l.of) (map ty_of l.types)) l.slots.items
    × FeedsPlaces (chain_of l.of) (map ty_of l.types) (tuples (arguments l.row)) l.i l.fn.slots.items l.slots.items

abbrev pub invariant-keys::feed_pairs-loop-i : goal.invariant-keys::feed_pairs-loop-i
invariant-keys::feed_pairs-loop-i l =
    AreEntries (IsState (chain_of l.of) (map ty_of l.types)) l.entries.items
    × FeedsKeys (chain_of l.of) (map ty_of l.types) (pair_rows (take l.i (map pair_value (pair_span_values l.pairs)))) l.fn.entries.items l.entries.items
