use Rattle.std.proofs.Common.{◌∙◌, ap, map}
use Rattle.value_types.specs.Folds.{leaf_of, tree_of, ty_of, value_of}
use Rattle.list_leaves.specs.Kept.{kept_values}
use Rattle.list_leaves.specs.Limits.{limit_of}
use Rattle.list_leaves.proofs.Arrays.{tree_is}
use Rattle.list_leaves.proofs.array.ArrayState.from_tree.Goals as goal

pub returns-clause-tree : goal.returns-clause-tree
returns-clause-tree c t =
    tree_is (limit_of c.limit_in.result.beyond_first) (leaf_of c.args.leaf.now) (map ty_of c.args.args.now) (tree_of c.args.tree.now) (kept_values c.in_ok-from_values.field-0) c.limit_in.ensures
    (ap (map value_of) c.in_ok-from_values.ensures ∙ c.values_in.ensures)
