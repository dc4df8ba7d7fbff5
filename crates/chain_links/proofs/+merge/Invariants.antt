-- Measures and loop invariants of the cycle of chain_links::merging::merge.
use Rattle.std.proofs.Common.{◌≤◌, map, length}
use Rattle.agg_terms.specs.Lists.{Each}
use Rattle.value_types.specs.Folds.{chain_of, ty_of}
use Rattle.running_states.specs.Shapes.{AreEntries, IsState}
use Rattle.chain_links.specs.proving.Words.{JoinsKeys, JoinsPlaces}
use Rattle.chain_links.proofs.+merge.Given as goal

abbrev pub invariant-places::merge_slots-loop-i : goal.invariant-places::merge_slots-loop-i
invariant-places::merge_slots-loop-i l =
    (l.i ≤ length l.slots.items)
    × Each (IsState (chain_of l.of) (map ty_of l.types)) l.slots.items
    × JoinsPlaces (chain_of l.of) (map ty_of l.types) l.fn.slots.items l.later l.i l.slots.items

abbrev pub invariant-keys::merge_entries-loop-i : goal.invariant-keys::merge_entries-loop-i
invariant-keys::merge_entries-loop-i l =
    AreEntries (IsState (chain_of l.of) (map ty_of l.types)) l.entries.items
    × JoinsKeys (chain_of l.of) (map ty_of l.types) l.fn.entries.items l.later l.i l.entries.items
