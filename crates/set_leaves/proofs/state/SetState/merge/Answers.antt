use Rattle.std.proofs.lemmas.Result.{on_ok_weaker}
use Rattle.set_leaves.specs.Rows.{rows_in}
use Rattle.set_leaves.proofs.States.{rows_taken}
use Rattle.set_leaves.proofs.state.SetState.merge.Goals as goal

pub returns-clause-rows : goal.returns-clause-rows
returns-clause-rows c =
    on_ok_weaker _
    (rows_taken c.args.self.now.arguments c.args.later.now.arguments (rows_in c.args.self.now.rows) (rows_in c.args.later.now.rows) (rows_in c.merge.new.self)) c.merge.ensures.ok
