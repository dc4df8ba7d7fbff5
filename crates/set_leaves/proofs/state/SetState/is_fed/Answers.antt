use Rattle.std.proofs.Common.{nat_lt, refl}
use Rattle.set_leaves.specs.Rows.{rows_in}
use Rattle.set_leaves.proofs.States.{fed_known}
use Rattle.set_leaves.proofs.state.SetState.is_fed.Goals as goal

pub returns : goal.returns
returns c =
    fed_known c.args.self.now.arguments (rows_in c.args.self.now.rows) c.len.result (nat_lt 0 c.len.result) refl c.len.ensures.count
