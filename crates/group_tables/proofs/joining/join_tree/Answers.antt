use Rattle.std.proofs.Common.{◌++◌, ◌∷◌, [], ◌-◌, ◌∙◌, ap, replicate}
use Rattle.state_columns.specs.Trees.{blank_in, trees_in}
use Rattle.value_types.specs.Folds.{tree_of}
use Rattle.group_tables.proofs.CallColumns.{joined-call, ok_then}
use Rattle.group_tables.proofs.joining.join_tree.Goals as goal

pub returns-clause-rows : goal.returns-clause-rows
returns-clause-rows c =
    ok_then c.add_tree.result c.add_tree.ensures.rows
    (joined-call c.args.call.now c.args.count (trees_in c.args.states.now) (trees_in c.widen.new.self) c.requires.room
    (c.in_ok-widen.ensures.trees ∙ ap (λ m. trees_in c.args.states.now ++ replicate (c.args.count - m) (blank_in c.args.call.now.ready)) c.len.ensures)
    (c.args.place ∷ []) (tree_of c.args.tree.now ∷ []) (trees_in c.add_tree.new.self))
