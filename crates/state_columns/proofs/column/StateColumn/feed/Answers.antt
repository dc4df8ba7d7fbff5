use Rattle.std.proofs.Common.{◌-◌}
use Rattle.chain_states.specs.Calls.{argument_rows}
use Rattle.state_columns.proofs.Columns.{ok_then, takes-at}
use Rattle.state_columns.proofs.column.StateColumn.feed.Goals as goal

pub returns-clause-rows : goal.returns-clause-rows
returns-clause-rows c =
    ok_then c.feed_places.result c.feed_places.ensures.rows
    (takes-at c.args.call.now c.args.places.now (argument_rows c.args.columns.now c.args.arguments.now c.args.from (c.args.to - c.args.from)) c.args.self.now.states.items c.feed_places.new.states.items)
