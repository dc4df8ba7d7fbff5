use Rattle.std.proofs.Common.{◌-◌, length, map, arith}
use Rattle.std.proofs.lemmas.List.{length-map}
use Rattle.value_types.specs.Folds.{leaf_of, pattern_of, tree_of, ty_of}
use Rattle.event_leaves.proofs.Matches.{tree_back}
use Rattle.event_leaves.proofs.Serving.{match_served}
use Rattle.event_leaves.proofs.matching.MatchState.from_tree.Goals as goal

pub returns-clause-tree : goal.returns-clause-tree
returns-clause-tree c =
    let f = leaf_of c.args.leaf.now in
    let ts = map ty_of c.args.args.now in
    tree_back (pattern_of c.in_ok-kept_pattern.field-0) (length c.args.args.now - 1) f ts (tree_of c.args.tree.now) c.in_ok-from_tree.field-0 c.in_ok-kept_pattern.ensures
    (omega (arith, (match_served f ts c.requires).1, length-map c.args.args.now ty_of)) c.in_ok-from_tree.ensures
