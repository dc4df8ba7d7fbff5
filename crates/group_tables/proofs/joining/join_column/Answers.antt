use Rattle.std.proofs.Common.{◌++◌, ◌-◌, ◌∙◌, ap, replicate}
use Rattle.state_columns.specs.Trees.{blank_in, trees_in}
use Rattle.group_tables.proofs.CallColumns.{joined-call, ok_then}
use Rattle.group_tables.proofs.joining.join_column.Goals as goal

pub returns-clause-rows : goal.returns-clause-rows
returns-clause-rows c =
    ok_then c.merge.result c.merge.ensures.rows
    (joined-call c.args.call.now c.args.count (trees_in c.args.states.now) (trees_in c.widen.new.self) c.requires.room
    (c.in_ok-widen.ensures.trees ∙ ap (λ m. trees_in c.args.states.now ++ replicate (c.args.count - m) (blank_in c.args.call.now.ready)) c.len.ensures)
    c.args.places.now (trees_in c.args.later.now) (trees_in c.merge.new.self))
