use Rattle.std.proofs.Common.{◌-◌, length, map, arith}
use Rattle.std.proofs.lemmas.List.{length-map}
use Rattle.value_types.specs.Folds.{leaf_of, tree_of, ty_of}
use Rattle.event_leaves.proofs.Funnels.{tree_back}
use Rattle.event_leaves.proofs.Serving.{served}
use Rattle.event_leaves.proofs.funnel.FunnelState.from_tree.Goals as goal

pub returns-clause-tree : goal.returns-clause-tree
returns-clause-tree c =
    let f = leaf_of c.args.leaf.now in
    let ts = map ty_of c.args.args.now in
    tree_back c.funnel_of-funnel.result.window c.funnel_of-funnel.result.is_strict (length c.args.args.now - 1) f ts (tree_of c.args.tree.now) c.in_ok-from_tree.field-0 c.funnel_of-funnel.ensures
    (omega (arith, (served f ts c.requires).1, length-map c.args.args.now ty_of)) c.in_ok-from_tree.ensures
