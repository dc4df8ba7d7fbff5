use Rattle.std.proofs.Common.{◌≡◌, ◌∷◌, [], ◌∙◌, ap, get_or, length, map, subst, sym, arith}
use Rattle.std.proofs.lemmas.List.{get_or-map}
use Rattle.state_columns.specs.Trees.{IsColumnOf, trees_in}
use Rattle.value_types.specs.Folds.{tree_of}
use Rattle.group_tables.specs.proving.Joined.{IsJoined}
use Rattle.group_tables.proofs.CallColumns.{ChangedSoFar, Joined, changed_all, changed_more}
use Rattle.group_tables.proofs.MergeLaws.{tree-there, trees-long}
use Rattle.group_tables.proofs.joining.join_trees.Goals as goal

pub join_tree-requires-clause-shape : goal.join_tree-requires-clause-shape
join_tree-requires-clause-shape c =
    let call = c.index-calls-i.result in
    let column = c.index_mut-column.result.now in
    let i = c.loop-i.i in
    subst (λ k. IsColumnOf k.ready column) (sym c.index-calls-i.is)
    (subst (IsColumnOf (get_or c.args.calls.now i call).ready) (sym (c.index_mut-column.ensures.value ∙ c.loop-i.invariant.same i column (omega arith)))
    (c.requires.shape.each i call column c.loop-i-test.true))

pub join_tree-requires-clause-tree : goal.join_tree-requires-clause-tree
join_tree-requires-clause-tree c =
    tree-there c.args.calls.now c.args.trees.now c.requires.trees c.loop-i.i c.index-calls-i.result c.index-trees-i.result c.loop-i-test.true c.index-calls-i.is c.index-trees-i.is

pub loop-i-preserved : goal.loop-i-preserved
loop-i-preserved c =
    let call = c.index-calls-i.result in
    let tree = c.index-trees-i.result in
    let old = trees_in c.index_mut-column.result.now in
    let new = trees_in c.join_tree.new.states in
    let alone = get_or-map (λ t. tree_of t ∷ []) c.args.trees.now c.loop-i.i tree [] (trees-long c.args.calls.now c.args.trees.now c.requires.trees c.loop-i.i c.loop-i-test.true) in
    changed_more c.args.calls.now (Joined c.args.count (c.args.place ∷ []) (map (λ t. tree_of t ∷ []) c.args.trees.now)) c.args.states.now.items c.loop-i.states.items c.loop-i.i
    call c.index_mut-column.result.now c.join_tree.new.states c.loop-i.invariant c.loop-i-test.true c.requires.shape.many c.index-calls-i.is c.index_mut-column.ensures.value
    c.in_ok-join_tree.ensures.shape
    (subst (λ us. IsJoined call c.args.count (c.args.place ∷ []) us old new) (ap (λ t. tree_of t ∷ []) c.index-trees-i.is ∙ sym alone) c.in_ok-join_tree.ensures.rows)

pub returns-clause-rows : goal.returns-clause-rows
returns-clause-rows c =
    let joined = Joined c.args.count (c.args.place ∷ []) (map (λ t. tree_of t ∷ []) c.args.trees.now) in
    let all : c.loop-i.i ≡ length c.args.calls.now = omega (arith, c.loop-i.auto.i-end, c.loop-i-test.false) in
    record {
      each =
          changed_all c.args.calls.now joined c.args.states.now.items c.loop-i.states.items c.requires.shape.many
          (subst (ChangedSoFar c.args.calls.now joined c.args.states.now.items c.loop-i.states.items) all c.loop-i.invariant);
    }
