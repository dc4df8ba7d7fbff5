use Rattle.std.proofs.Common.{◌≡◌, take}
use Rattle.value_types.proofs.+copy_value.Given as goal

abbrev pub invariant-value_copies::copy_keyed-loop-entry :
    goal.invariant-value_copies::copy_keyed-loop-entry
invariant-value_copies::copy_keyed-loop-entry l = l.copied ≡ take l.entry-index l.entries

abbrev pub invariant-value_copies::copy_pairs-loop-pair :
    goal.invariant-value_copies::copy_pairs-loop-pair
invariant-value_copies::copy_pairs-loop-pair l = l.copied ≡ take l.pair-index l.pairs

abbrev pub invariant-value_copies::copy_rows-loop-item :
    goal.invariant-value_copies::copy_rows-loop-item
invariant-value_copies::copy_rows-loop-item l =
    (l.copied_row ≡ take l.item-index l.item-items) × (l.copied ≡ take l.row-index l.rows)

abbrev pub invariant-value_copies::copy_rows-loop-row :
    goal.invariant-value_copies::copy_rows-loop-row
invariant-value_copies::copy_rows-loop-row l = l.copied ≡ take l.row-index l.rows

abbrev pub invariant-value_copies::copy_trees-loop-tree :
    goal.invariant-value_copies::copy_trees-loop-tree
invariant-value_copies::copy_trees-loop-tree l = l.copied ≡ take l.tree-index l.trees

abbrev pub invariant-value_copies::copy_values-loop-item :
    goal.invariant-value_copies::copy_values-loop-item
invariant-value_copies::copy_values-loop-item l = l.copied ≡ take l.item-index l.items
