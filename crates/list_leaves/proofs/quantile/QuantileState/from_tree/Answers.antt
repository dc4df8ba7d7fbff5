use Rattle.std.proofs.Common.{◌∙◌, ap, map}
use Rattle.agg_meaning.specs.Functions.{number}
use Rattle.value_types.specs.Folds.{leaf_of, tree_of, ty_of}
use Rattle.list_leaves.proofs.Quantiles.{tree_back}
use Rattle.list_leaves.proofs.quantile.QuantileState.from_tree.Goals as goal

pub returns-clause-tree : goal.returns-clause-tree
returns-clause-tree c =
    tree_back c.new.result (leaf_of c.args.leaf.now) (map ty_of c.args.args.now) (tree_of c.args.tree.now) c.in_ok-numbers_in.field-0 c.new.ensures
    (c.in_ok-numbers_in.ensures ∙ ap (map number) c.values_in.ensures)
