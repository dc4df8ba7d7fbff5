-- Answers of the goals that the search leaves open in the cycle of chain_links::merging::merge.
use Rattle.std.proofs.Common.{rules, ap, get_or, map}
use Rattle.value_types.specs.Folds.{chain_of, ty_of, value_of}
use Rattle.running_states.specs.Shapes.{IsState}
use Rattle.chain_links.proofs.Entries.{entry_kept, entry_state, joined_entry, joined_no_keys, keys_joined}
use Rattle.chain_links.proofs.PartsJoined.{parts_joined}
use Rattle.chain_links.proofs.SlotLists.{each_get, joined_place, kept_place, own_at, room_kept, slots_joined}
use Rattle.chain_links.proofs.+merge.Goals as goal

pub intervals::merge_intervals-returns-clause-rows : goal.intervals::merge_intervals-returns-clause-rows
intervals::merge_intervals-returns-clause-rows t c =
    parts_joined c.args.start c.args.end c.args.step (chain_of c.args.of.now) (map ty_of c.args.types.now) c.merge_slots.result c.args.state.now c.args.later.now _ c.in-Slots.parts c.in-Slots-later.rows c.merge_slots.new.slots
    c.in-Slots.is c.in-Slots-later.is (search rules) c.requires.first c.requires.later (search rules)

pub places::merge_places-returns-clause-rows : goal.places::merge_places-returns-clause-rows
places::merge_places-returns-clause-rows t c =
    slots_joined (chain_of c.args.of.now) (map ty_of c.args.types.now) c.merge_slots.result c.args.state.now c.args.later.now _ c.in-Slots.slots c.in-Slots-later.rows c.merge_slots.new.slots
    c.in-Slots.is c.in-Slots-later.is (search rules) (search rules)

pub places::merge_slots-loop-i-preserved : goal.places::merge_slots-loop-i-preserved
places::merge_slots-loop-i-preserved t c = (
  room_kept (chain_of c.args.of.now) (map ty_of c.args.types.now) c.args.slots.now.items c.loop-i.slots.items c.make_room.new.slots.items c.loop-i.i c.index_mut.result.now c.merge.new.state c.in_ok-make_room.ensures (search rules),
  kept_place (chain_of c.args.of.now) (map ty_of c.args.types.now) c.args.slots.now.items c.loop-i.slots.items c.make_room.new.slots.items c.loop-i.i c.index_mut.result.now c.merge.new.state c.in_ok-make_room.ensures (search rules) (search rules) (search rules),
  joined_place (chain_of c.args.of.now) (map ty_of c.args.types.now) c.args.slots.now.items c.loop-i.slots.items c.make_room.new.slots.items c.loop-i.i c.index_mut.result.now c.merge.new.state c.in_ok-make_room.ensures (search rules) c.args.later.now c.index-later-i.result (search rules) (search rules) (search rules) (search rules),
)

pub keys::merge_keys-returns-clause-rows : goal.keys::merge_keys-returns-clause-rows
keys::merge_keys-returns-clause-rows t c =
    keys_joined (chain_of c.args.of.now) (map ty_of c.args.types.now) c.merge_entries.result c.args.state.now c.args.later.now _ c.in-Keyed.entries c.in-Keyed-later.more c.merge_entries.new.entries
    c.in-Keyed.is c.in-Keyed-later.is (search rules) (search rules)

pub keys::merge_entries-loop-i-init : goal.keys::merge_entries-loop-i-init
keys::merge_entries-loop-i-init t c =
    (c.requires.first, joined_no_keys (chain_of c.args.of.now) (map ty_of c.args.types.now) c.args.entries.now.items c.args.later.now c.requires.first.1)

pub keys::merge_entries-merge-requires : goal.keys::merge_entries-merge-requires
keys::merge_entries-merge-requires t c = (
  search rules,
  (
    c.requires.sound,
    (
      c.requires.served,
      (
        entry_state (chain_of c.args.of.now) (map ty_of c.args.types.now) _ c.loop-i.entries.items c.place_for.new.entries.items c.in_ok-place.place c.index_mut.result.now c.index_mut.result.now.1 c.in_ok-place.ensures c.loop-i.invariant.0.1 (search rules) c.loop-i.invariant.0,
        each_get (λ e. IsState (chain_of c.args.of.now) (map ty_of c.args.types.now) e.1) c.args.later.now c.loop-i.i (get_or c.args.later.now c.loop-i.i c.index-later-i-in-loop-i-2.result) c.requires.later.0 c.loop-i-test.true (search rules),
      ),
    ),
  ),
)

pub keys::merge_entries-loop-i-preserved : goal.keys::merge_entries-loop-i-preserved
keys::merge_entries-loop-i-preserved t c = (
  entry_kept (chain_of c.args.of.now) (map ty_of c.args.types.now) _ c.loop-i.entries.items c.place_for.new.entries.items c.in_ok-place.place c.index_mut.result.now c.merge.new.state c.in_ok-place.ensures c.loop-i.invariant.0.1 (search rules) c.loop-i.invariant.0 c.in_ok-merge.ensures.shape,
  joined_entry (chain_of c.args.of.now) (map ty_of c.args.types.now) _ c.loop-i.entries.items c.place_for.new.entries.items c.in_ok-place.place c.index_mut.result.now c.merge.new.state c.in_ok-place.ensures c.loop-i.invariant.0.1 (search rules)
      c.args.entries.now.items c.args.later.now c.loop-i.i c.index-later-i-in-loop-i-2.result c.requires.later.1 c.loop-i-test.true c.index-later-i-in-loop-i-2.is
      (ap (λ e. value_of e.0) (own_at c.args.later.now c.loop-i.i c.index-later-i-in-loop-i-2.result c.index-later-i-in-loop-i.result c.loop-i-test.true c.index-later-i-in-loop-i-2.is)) c.loop-i.invariant.1 (search rules),
)
