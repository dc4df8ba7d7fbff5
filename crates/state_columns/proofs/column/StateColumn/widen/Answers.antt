use Rattle.state_columns.proofs.Columns.{fresh-behind, ok_then}
use Rattle.state_columns.proofs.column.StateColumn.widen.Goals as goal

pub returns-clause-trees : goal.returns-clause-trees
returns-clause-trees c =
    ok_then c.add_fresh.result c.add_fresh.ensures.fresh (fresh-behind c.args.call.now c.args.count c.args.self.now.states.items c.add_fresh.new.states.items)
