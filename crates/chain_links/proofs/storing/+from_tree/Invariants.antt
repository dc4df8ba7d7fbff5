-- Measures and loop invariants of chain_links::storing::from_tree.
use Rattle.std.proofs.Common.{◌≡◌, ◌≤◌, map, take, length}
use Rattle.agg_terms.specs.Lists.{Each}
use Rattle.value_types.specs.Folds.{chain_of, entry_of, tree_of, ty_of}
use Rattle.running_states.specs.Shapes.{AreEntries, IsState}
use Rattle.chain_links.specs.proving.Words.{HasTrees, StoresKeys}
use Rattle.chain_links.proofs.storing.+from_tree.Given as goal

abbrev pub invariant-slots_from-loop-i : goal.invariant-slots_from-loop-i
invariant-slots_from-loop-i l =
    Each (IsState (chain_of l.of) (map ty_of l.types)) l.all.items × HasTrees (chain_of l.of) (map ty_of l.types) (map tree_of (take l.i l.trees)) l.all.items

abbrev pub invariant-parts_from-loop-i : goal.invariant-parts_from-loop-i
invariant-parts_from-loop-i l =
    Each (IsState (chain_of l.of) (map ty_of l.types)) l.all.items
    × (length l.all.items ≡ l.i)
    × (l.i ≤ length l.trees → HasTrees (chain_of l.of) (map ty_of l.types) (map tree_of (take l.i l.trees)) l.all.items)

abbrev pub invariant-keys_from-loop-i : goal.invariant-keys_from-loop-i
invariant-keys_from-loop-i l =
    AreEntries (IsState (chain_of l.of) (map ty_of l.types)) l.all.items × StoresKeys (chain_of l.of) (map ty_of l.types) (map entry_of (take l.i l.stored)) l.all.items
