use Rattle.std.proofs.Common.{◌++◌, ◌-◌, ◌∙◌, ap, replicate, subst}
use Rattle.chain_states.specs.Calls.{argument_rows}
use Rattle.state_columns.specs.Trees.{blank_in, trees_in}
use Rattle.group_tables.specs.proving.Fed.{IsFed}
use Rattle.group_tables.proofs.CallColumns.{fed-call, ok_then}
use Rattle.group_tables.proofs.calls.feed_call.Goals as goal

pub returns-clause-rows : goal.returns-clause-rows
returns-clause-rows c =
    let arguments = c.as_slice-arguments.result.now in
    ok_then c.feed.result c.feed.ensures.rows
    (λ t. subst (λ numbers. IsFed c.args.call.now c.args.count c.args.places.now (argument_rows c.args.columns.now numbers c.args.from (c.args.to - c.args.from)) (trees_in c.args.states.now) (trees_in c.feed.new.self))
    c.as_slice-arguments.ensures
    (fed-call c.args.call.now c.args.count (trees_in c.args.states.now) (trees_in c.widen.new.self) c.requires.room
    (c.in_ok-widen.ensures.trees ∙ ap (λ m. trees_in c.args.states.now ++ replicate (c.args.count - m) (blank_in c.args.call.now.ready)) c.len.ensures)
    c.args.places.now (argument_rows c.args.columns.now arguments c.args.from (c.args.to - c.args.from)) (trees_in c.feed.new.self) t))
