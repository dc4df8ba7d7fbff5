-- What a value and a tree are in the definitions, from the kind that their match shows.
use Rattle.std.proofs.Common.{◌≡◌}
use Rattle.agg_terms.specs.Values as family
use Rattle.value_types.specs.declared.value.Value.{Value}
use Rattle.value_types.specs.declared.value.Tree.{Tree}
use Rattle.value_types.specs.declared.value.KeyedTree.{KeyedTree}
use Rattle.value_types.specs.declared.value.Tree.TheOpen.{Tree-F, Value-F}
use Rattle.value_types.specs.declared.value.Tree.TheViews.{roll-Tree, roll-Value}
use Rattle.value_types.specs.declared.value.Tree.TheFolds.{fold-roll-Tree, fold-roll-Value, map-Tree, map-Value}
use Rattle.value_types.specs.Folds.{entry_of, entry_step, tree_of, tree_step, value_of, value_step}

abbrev pub Image : Type 0
Image = family.Value × family.Tree

abbrev pub value_image : Value-F Tree Value KeyedTree → Value-F family.Tree family.Value Image
value_image = map-Value Tree Value KeyedTree family.Tree family.Value Image tree_of value_of entry_of

abbrev pub tree_image : Tree-F Tree Value KeyedTree → Tree-F family.Tree family.Value Image
tree_image = map-Tree Tree Value KeyedTree family.Tree family.Value Image tree_of value_of entry_of

pub value_rolls : (layer : Value-F Tree Value KeyedTree) → value_of (roll-Value layer) ≡ value_step (value_image layer)
value_rolls = fold-roll-Value family.Tree family.Value (family.Value × family.Tree) tree_step value_step entry_step

pub tree_rolls : (layer : Tree-F Tree Value KeyedTree) → tree_of (roll-Tree layer) ≡ tree_step (tree_image layer)
tree_rolls = fold-roll-Tree family.Tree family.Value (family.Value × family.Tree) tree_step value_step entry_step
