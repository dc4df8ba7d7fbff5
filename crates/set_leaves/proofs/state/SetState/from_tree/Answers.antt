use Rattle.std.proofs.Common.{◌∙◌, ap, map}
use Rattle.agg_terms.specs.Order.{compare_rows, different}
use Rattle.value_types.specs.Folds.{leaf_of, tree_of, ty_of}
use Rattle.set_leaves.specs.Rows.{rows_in}
use Rattle.set_leaves.proofs.Serving.{served}
use Rattle.set_leaves.proofs.States.{tree_back}
use Rattle.set_leaves.proofs.state.SetState.from_tree.Goals as goal

pub returns-clause-tree : goal.returns-clause-tree
returns-clause-tree c =
    let f = leaf_of c.args.leaf.now in
    let ts = map ty_of c.args.args.now in
    tree_back f ts (tree_of c.args.tree.now) (rows_in c.in_ok-rows_from.field-0) (served f ts c.requires).0
    (c.in_ok-rows_from.ensures ∙ ap (different compare_rows) c.stored_rows.ensures)
