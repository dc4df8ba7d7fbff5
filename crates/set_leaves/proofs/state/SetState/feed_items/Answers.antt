use Rattle.std.proofs.Common.{map}
use Rattle.std.proofs.lemmas.Result.{on_ok_weaker}
use Rattle.set_leaves.specs.Rows.{rows_in}
use Rattle.set_leaves.specs.Tuples.{argument}
use Rattle.set_leaves.proofs.States.{row_taken}
use Rattle.set_leaves.proofs.state.SetState.feed_items.Goals as goal

pub returns-clause-row : goal.returns-clause-row
returns-clause-row c =
    on_ok_weaker _ (row_taken c.args.self.now.arguments (rows_in c.args.self.now.rows) (rows_in c.insert.new.self) (map argument c.args.row.now)) c.insert.ensures.ok
