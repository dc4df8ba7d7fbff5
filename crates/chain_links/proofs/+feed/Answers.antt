-- Answers of the goals that the search leaves open in the cycle of chain_links::feeding::feed.
use Rattle.std.proofs.Common.{◌≡◌, rules, ◌∷◌, [], map, length, refl, sym, ◌∙◌, w64, to_z, of_z}
use Rattle.std.specs.Int.{w128}
use Rattle.std.proofs.lemmas.List.{length-set}
use Rattle.agg_meaning.specs.Feeds.{tuples}
use Rattle.int_leaves.specs.Rows.{argument}
use Rattle.typed_columns.specs.Items.{pair_span_values, span_values}
use Rattle.value_types.specs.Folds.{chain_of, ty_of}
use Rattle.running_states.specs.Shapes.{IsState}
use Rattle.running_states.proofs.Outcomes.{on_ok}
use Rattle.row_parts.specs.Rows.{arguments, element_rows, pair_value}
use Rattle.row_parts.proofs.Tuples.{one_row}
use Rattle.chain_links.proofs.Entries.{entry_kept, entry_state, fed_entry, fed_no_keys, fed_pair, keys_fed}
use Rattle.chain_links.proofs.FedRows.{fed_more}
use Rattle.chain_links.proofs.LentRows.{element_count, element_within, lent_few, lent_row, pair_at, pair_within, tuple_within}
use Rattle.chain_links.proofs.Parts.{none_picks, outside_picks}
use Rattle.chain_links.proofs.PartsFed.{found_inside, found_outside, part_fed, part_kept, parts_stay}
use Rattle.chain_links.proofs.SlotLists.{each_set, fed_place, kept_place, own_place, room_kept, slots_fed}
use Rattle.chain_links.proofs.+feed.Goals as goal

-- -Array
pub elements::feed_span-loop-i-preserved : goal.elements::feed_span-loop-i-preserved
elements::feed_span-loop-i-preserved t c = (
  c.in_ok-feed.ensures.shape,
  fed_more (chain_of c.args.of.now) (map ty_of c.args.types.now) (element_rows (span_values c.args.elements.now)) c.loop-i.i (argument c.at.result ∷ []) c.args.state.now c.loop-i.state c.feed.new.state
      (element_within (span_values c.args.elements.now) c.loop-i.i c.len-i-end.result c.loop-i-test.true c.len-i-end.ensures) (one_row c.args.elements.now c.loop-i.i c.at.result c.at.ensures) c.loop-i.invariant.1 c.in_ok-feed.ensures.row,
)

pub elements::feed_tuples-feed-requires : goal.elements::feed_tuples-feed-requires
elements::feed_tuples-feed-requires t c = (
  search rules,
  (
    c.requires.sound,
    (
      c.requires.served,
      (
        c.loop-i.invariant.0,
        lent_few c.args.row.now c.as_slice.result.now c.lend_tuple.new.tuple c.loop-i.i c.count_tuples-count.result c.loop-i-test.true c.count_tuples-count.ensures c.as_slice.ensures c.lend_tuple.ensures c.requires.few,
      ),
    ),
  ),
)

pub elements::feed_tuples-loop-i-preserved : goal.elements::feed_tuples-loop-i-preserved
elements::feed_tuples-loop-i-preserved t c = (
  c.in_ok-feed.ensures.shape,
  fed_more (chain_of c.args.of.now) (map ty_of c.args.types.now) (tuples (arguments c.args.row.now)) c.loop-i.i (arguments c.as_slice.result.now) c.args.state.now c.loop-i.state c.feed.new.state
      (tuple_within c.args.row.now c.loop-i.i c.count_tuples-count.result c.loop-i-test.true c.count_tuples-count.ensures) (sym (lent_row c.as_slice.result.now c.lend_tuple.new.tuple _ c.as_slice.ensures c.lend_tuple.ensures)) c.loop-i.invariant.1 c.in_ok-feed.ensures.row,
)

-- -Resample
pub intervals::feed_part-returns-clause-shape : goal.intervals::feed_part-returns-clause-shape
intervals::feed_part-returns-clause-shape t c =
    on_ok c.feed.result (λ a. (each_set (IsState (chain_of c.args.of.now) (map ty_of c.args.types.now)) c.args.parts.now.items c.args.place c.feed.new.state c.requires.shape a, length-set c.args.parts.now.items c.args.place c.feed.new.state)) c.feed.ensures.shape

pub intervals::feed_part-returns-clause-row : goal.intervals::feed_part-returns-clause-row
intervals::feed_part-returns-clause-row t c =
    on_ok c.feed.result (λ a. record { before = c.index_mut.result.now; after = c.feed.new.state; there = search rules; put = refl; row = a }) c.feed.ensures.row

pub intervals::feed_interval-returns-in-Slots-clause-shape : goal.intervals::feed_interval-returns-in-Slots-clause-shape
intervals::feed_interval-returns-in-Slots-clause-shape t c =
    part_kept c.args.start c.args.end c.args.step (chain_of c.args.of.now) (map ty_of c.args.types.now) c.feed_part.result c.args.state.now _ c.in-Slots.parts c.feed_part.new.parts
    c.in-Slots.is (search rules) c.requires.shape (search rules)

pub intervals::feed_interval-returns-in-Slots-clause-row : goal.intervals::feed_interval-returns-in-Slots-clause-row
intervals::feed_interval-returns-in-Slots-clause-row t c =
    let s : to_z w64 (of_z w64 c.args.start) ≡ c.args.start = search rules in
    let e : to_z w64 (of_z w64 c.args.end) ≡ c.args.end = search rules in
    let k : to_z w128 (of_z w128 c.in-Some.key) ≡ c.in-Some.key = search rules in
    part_fed c.args.start c.args.end c.args.step (chain_of c.args.of.now) (map ty_of c.args.types.now) c.feed_part.result c.args.state.now _ c.in-Slots.parts c.feed_part.new.parts
    c.in-Slots.is (search rules) c.requires.shape (arguments c.args.row.now) (arguments c.front.result.now) c.in-Some-interval_of.place c.in-Some.key (sym c.last_key.ensures ∙ c.in-Some.is)
    (found_inside c.args.start c.args.end c.args.step c.in-Some-interval_of.place c.in-Some.key s e k c.in-Some-interval_of.ensures.some) c.front.ensures.front (search rules)

pub intervals::feed_interval-returns-in-None-interval_of-clause-row : goal.intervals::feed_interval-returns-in-None-interval_of-clause-row
intervals::feed_interval-returns-in-None-interval_of-clause-row t c =
    let s : to_z w64 (of_z w64 c.args.start) ≡ c.args.start = search rules in
    let e : to_z w64 (of_z w64 c.args.end) ≡ c.args.end = search rules in
    let k : to_z w128 (of_z w128 c.in-Some.key) ≡ c.in-Some.key = search rules in
    parts_stay c.args.start c.args.end c.args.step (chain_of c.args.of.now) (map ty_of c.args.types.now) (arguments c.args.row.now) c.args.state.now c.requires.shape
    (outside_picks c.args.start c.args.end c.args.step (chain_of c.args.of.now) (map ty_of c.args.types.now) (arguments c.args.row.now) c.in-Some.key (sym c.last_key.ensures ∙ c.in-Some.is)
    (found_outside c.args.start c.args.end c.args.step c.in-Some.key s e k c.in-None-interval_of.ensures.none))

pub intervals::feed_interval-returns-in-None-clause-row : goal.intervals::feed_interval-returns-in-None-clause-row
intervals::feed_interval-returns-in-None-clause-row t c =
    parts_stay c.args.start c.args.end c.args.step (chain_of c.args.of.now) (map ty_of c.args.types.now) (arguments c.args.row.now) c.args.state.now c.requires.shape
    (none_picks c.args.start c.args.end c.args.step (chain_of c.args.of.now) (map ty_of c.args.types.now) (arguments c.args.row.now) (sym c.last_key.ensures ∙ c.in-None.is))

-- -Map
pub keys::feed_keys-returns-in-Keyed-clause-row : goal.keys::feed_keys-returns-in-Keyed-clause-row
keys::feed_keys-returns-in-Keyed-clause-row t c =
    keys_fed (chain_of c.args.of.now) (map ty_of c.args.types.now) c.feed_pairs.result (arguments c.args.row.now) (map pair_value (pair_span_values c.in-Some.pairs)) c.args.state.now _ c.in-Keyed.entries c.feed_pairs.new.entries
    c.in-Some.ensures.some c.in-Keyed.is (search rules) (search rules)

pub keys::feed_pairs-loop-i-init : goal.keys::feed_pairs-loop-i-init
keys::feed_pairs-loop-i-init t c = (c.requires.shape, fed_no_keys (chain_of c.args.of.now) (map ty_of c.args.types.now) c.args.entries.now.items c.requires.shape.1)

pub keys::feed_pairs-feed-requires : goal.keys::feed_pairs-feed-requires
keys::feed_pairs-feed-requires t c = (
  search rules,
  (
    c.requires.sound,
    (
      c.requires.served,
      (
        entry_state (chain_of c.args.of.now) (map ty_of c.args.types.now) _ c.loop-i.entries.items c.place_for_item.new.entries.items c.in_ok-place.place c.index_mut.result.now c.index_mut.result.now.1 c.in_ok-place.ensures c.loop-i.invariant.0.1 (search rules) c.loop-i.invariant.0,
        search rules,
      ),
    ),
  ),
)

pub keys::feed_pairs-loop-i-preserved : goal.keys::feed_pairs-loop-i-preserved
keys::feed_pairs-loop-i-preserved t c = (
  entry_kept (chain_of c.args.of.now) (map ty_of c.args.types.now) _ c.loop-i.entries.items c.place_for_item.new.entries.items c.in_ok-place.place c.index_mut.result.now c.feed.new.state c.in_ok-place.ensures c.loop-i.invariant.0.1 (search rules) c.loop-i.invariant.0 c.in_ok-feed.ensures.shape,
  fed_pair (chain_of c.args.of.now) (map ty_of c.args.types.now) (map pair_value (pair_span_values c.args.pairs.now)) c.loop-i.i (argument c.key.result) (argument c.value.result) c.args.entries.now.items c.loop-i.entries.items _
      (pair_within (pair_span_values c.args.pairs.now) c.loop-i.i c.len-i-end.result c.loop-i-test.true c.len-i-end.ensures) (pair_at (pair_span_values c.args.pairs.now) c.loop-i.i c.key.result c.value.result c.key.ensures c.value.ensures)
      (fed_entry (chain_of c.args.of.now) (map ty_of c.args.types.now) (argument c.key.result) c.loop-i.entries.items c.place_for_item.new.entries.items c.in_ok-place.place c.index_mut.result.now c.feed.new.state c.in_ok-place.ensures c.loop-i.invariant.0.1 (search rules)
      _ (argument c.value.result ∷ []) c.args.entries.now.items c.loop-i.invariant.1 c.in_ok-feed.ensures.row),
)

-- -ForEach
pub places::feed_places-returns-in-Some-clause-row : goal.places::feed_places-returns-in-Some-clause-row
places::feed_places-returns-in-Some-clause-row t c =
    slots_fed (chain_of c.args.of.now) (map ty_of c.args.types.now) c.feed_span.result (arguments c.args.row.now) (element_rows (span_values c.in-Some.elements)) (length (span_values c.in-Some.elements)) c.args.state.now _ c.in-Slots.slots c.feed_span.new.slots
    c.in-Some.ensures (element_count (span_values c.in-Some.elements)) c.in-Slots.is (search rules) (search rules)

pub places::feed_places-returns-in-None-clause-row : goal.places::feed_places-returns-in-None-clause-row
places::feed_places-returns-in-None-clause-row t c =
    slots_fed (chain_of c.args.of.now) (map ty_of c.args.types.now) c.feed_tuples.result (arguments c.args.row.now) (tuples (arguments c.args.row.now)) (length (tuples (arguments c.args.row.now))) c.args.state.now _ c.in-Slots.slots c.feed_tuples.new.slots
    refl refl c.in-Slots.is (search rules) (search rules)

pub places::feed_span-loop-i-preserved : goal.places::feed_span-loop-i-preserved
places::feed_span-loop-i-preserved t c = (
  room_kept (chain_of c.args.of.now) (map ty_of c.args.types.now) c.args.slots.now.items c.loop-i.slots.items c.make_room.new.slots.items c.loop-i.i c.index_mut.result.now c.feed.new.state c.in_ok-make_room.ensures (search rules),
  kept_place (chain_of c.args.of.now) (map ty_of c.args.types.now) c.args.slots.now.items c.loop-i.slots.items c.make_room.new.slots.items c.loop-i.i c.index_mut.result.now c.feed.new.state c.in_ok-make_room.ensures (search rules) (search rules) c.in_ok-feed.ensures.shape,
  fed_place (chain_of c.args.of.now) (map ty_of c.args.types.now) c.args.slots.now.items c.loop-i.slots.items c.make_room.new.slots.items c.loop-i.i c.index_mut.result.now c.feed.new.state c.in_ok-make_room.ensures (search rules)
      (element_rows (span_values c.args.elements.now)) (argument c.at.result ∷ []) (one_row c.args.elements.now c.loop-i.i c.at.result c.at.ensures) (search rules) c.in_ok-feed.ensures.row,
)

pub places::feed_tuples-feed-requires : goal.places::feed_tuples-feed-requires
places::feed_tuples-feed-requires t c = (
  search rules,
  (
    c.requires.sound,
    (
      c.requires.served,
      (
        own_place (chain_of c.args.of.now) (map ty_of c.args.types.now) c.args.slots.now.items c.loop-i.slots.items c.make_room.new.slots.items c.loop-i.i c.index_mut.result.now c.index_mut.result.now c.in_ok-make_room.ensures (search rules) (search rules),
        lent_few c.args.row.now c.as_slice.result.now c.lend_tuple.new.tuple c.loop-i.i c.count_tuples-count.result c.loop-i-test.true c.count_tuples-count.ensures c.as_slice.ensures c.lend_tuple.ensures c.requires.few,
      ),
    ),
  ),
)

pub places::feed_tuples-loop-i-preserved : goal.places::feed_tuples-loop-i-preserved
places::feed_tuples-loop-i-preserved t c = (
  room_kept (chain_of c.args.of.now) (map ty_of c.args.types.now) c.args.slots.now.items c.loop-i.slots.items c.make_room.new.slots.items c.loop-i.i c.index_mut.result.now c.feed.new.state c.in_ok-make_room.ensures (search rules),
  kept_place (chain_of c.args.of.now) (map ty_of c.args.types.now) c.args.slots.now.items c.loop-i.slots.items c.make_room.new.slots.items c.loop-i.i c.index_mut.result.now c.feed.new.state c.in_ok-make_room.ensures (search rules) (search rules) c.in_ok-feed.ensures.shape,
  fed_place (chain_of c.args.of.now) (map ty_of c.args.types.now) c.args.slots.now.items c.loop-i.slots.items c.make_room.new.slots.items c.loop-i.i c.index_mut.result.now c.feed.new.state c.in_ok-make_room.ensures (search rules)
      (tuples (arguments c.args.row.now)) (arguments c.as_slice.result.now) (sym (lent_row c.as_slice.result.now c.lend_tuple.new.tuple _ c.as_slice.ensures c.lend_tuple.ensures)) (search rules) c.in_ok-feed.ensures.row,
)
