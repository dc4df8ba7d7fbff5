-- Measures and loop invariants of chain_links::trees::tree.
use Rattle.std.proofs.Common.{◌≡◌, suc, ◌*◌, map, take}
use Rattle.value_types.specs.Folds.{entry_of, tree_of}
use Rattle.running_states.specs.Trees.{tree_in}
use Rattle.running_states.specs.Entries.{entries_in}
use Rattle.chain_links.proofs.Heights.{entry_heights, height, heights}
use Rattle.chain_links.proofs.trees.+tree.Given as goal

abbrev pub decreases-tree : goal.decreases-tree
decreases-tree l = 2 * height l.state.now

abbrev pub decreases-all_trees : goal.decreases-all_trees
decreases-all_trees l = suc (2 * heights l.slots.now)

abbrev pub decreases-keyed_trees : goal.decreases-keyed_trees
decreases-keyed_trees l = suc (2 * entry_heights l.entries.now)

abbrev pub invariant-all_trees-loop-slot : goal.invariant-all_trees-loop-slot
invariant-all_trees-loop-slot l = map tree_of l.all ≡ map tree_in (take l.slot-index l.slots)

abbrev pub invariant-keyed_trees-loop-entry : goal.invariant-keyed_trees-loop-entry
invariant-keyed_trees-loop-entry l = map entry_of l.all ≡ entries_in (take l.entry-index l.entries)
