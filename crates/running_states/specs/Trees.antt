-- The tree of a state.
use Rattle.std.specs.Prelude.{map}
use Rattle.agg_terms.specs.Chains.{Str}
use Rattle.agg_terms.specs.Values.{Tree, Value, keyed_tree, rows_tree, slots_tree}
use Rattle.boxed_leaves.specs.Boxed as boxed
use Rattle.distinct_rows.specs.Rows.{rows_in}
use Rattle.int_leaves.specs.Parts as int
use Rattle.value_types.specs.Folds.{value_of}
use Rattle.value_types.specs.declared.value.Value.{Value as Valued}
use Rattle.running_states.specs.declared.running.Running.{Running}
use Rattle.running_states.specs.declared.running.Running.TheOpen.{Running-F}
use Rattle.running_states.specs.declared.running.Running.TheFolds.{fold-Running}

-- an entry of a map, with the tree that stands at its key
abbrev pub entry_tree : Valued × Tree → Value × Tree
entry_tree e = (value_of e.0, e.1)

-- one layer of a state, over the trees of what it holds; a function's tree doesn't depend on its result type
abbrev pub tree_step : Running-F Tree → Tree
tree_step (Running-F.Int s) = (int.held s).tree
tree_step (Running-F.Boxed s) = (boxed.held Str s).tree
tree_step (Running-F.Slots slots) = slots_tree slots.items
tree_step (Running-F.Keyed entries) = keyed_tree (map entry_tree entries.items)
tree_step (Running-F.Rows rows) = rows_tree (rows_in rows.value)

abbrev pub tree_in : Running → Tree
tree_in = fold-Running Tree tree_step
