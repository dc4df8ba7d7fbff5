use Rattle.std.proofs.Common.{◌<◌, subst}
use Rattle.std.proofs.lemmas.List.{length-map}
use Rattle.agg_meaning.specs.States.{Joins}
use Rattle.value_types.specs.Folds.{tree_of}
use Rattle.chain_states.specs.Calls.{chain_in, tree_in, types_in}
use Rattle.state_columns.proofs.Columns.{joined-one, ok_then}
use Rattle.state_columns.proofs.column.StateColumn.add_tree.Goals as goal

pub returns-clause-rows : goal.returns-clause-rows
returns-clause-rows c =
    let k = c.args.call.now in
    let states = c.args.self.now.states.items in
    let here = subst (λ n. c.args.place < n) (length-map states tree_in) c.requires.place in
    ok_then c.merge.result c.merge.ensures.rows
    (λ rows. joined-one k states c.args.place c.index_mut.result.now c.merge.new.self (tree_of c.args.tree.now) here c.index_mut.ensures.value
    (subst (λ t. Joins (chain_in k) (types_in k) (tree_in c.index_mut.result.now) t (tree_in c.merge.new.self)) (c.in_ok-later.ensures.tree c.requires.tree) rows))
