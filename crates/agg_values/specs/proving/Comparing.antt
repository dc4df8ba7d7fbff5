-- The order of the definitions over the code's values, and over the lists that they hold.
use Rattle.std.specs.declared.cmp.Ordering.{Ordering}
use Rattle.std.specs.Ordering.{ordering_then}
use Rattle.agg_terms.specs.Order.{compare, compare_trees}
use Rattle.value_types.specs.declared.value.Value.{Value}
use Rattle.value_types.specs.declared.value.Tree.{Tree}
use Rattle.value_types.specs.declared.value.KeyedTree.{KeyedTree}
use Rattle.value_types.specs.Folds.{entry_of, tree_of, value_of}

abbrev pub value_cmp : Value → Value → Ordering
value_cmp a b = compare (value_of a) (value_of b)

abbrev pub tree_cmp : Tree → Tree → Ordering
tree_cmp a b = compare_trees (tree_of a) (tree_of b)

-- entries of a map: by key, then by value
abbrev pub pair_cmp : Value × Value → Value × Value → Ordering
pair_cmp a b = ordering_then (value_cmp a.0 b.0) (value_cmp a.1 b.1)

-- the states at keys: by key, then by tree
abbrev pub keyed_cmp : KeyedTree → KeyedTree → Ordering
keyed_cmp a b = ordering_then (compare (entry_of a).0 (entry_of b).0) (compare_trees (entry_of a).1 (entry_of b).1)
