use Rattle.value_types.specs.Folds.{value_of}
use Rattle.set_leaves.specs.Rows.{rows_in}
use Rattle.set_leaves.proofs.States.{count_means}
use Rattle.set_leaves.proofs.state.SetState.finish.Goals as goal

pub returns-clause-means : goal.returns-clause-means
returns-clause-means c =
    count_means c.args.self.now.arguments (rows_in c.args.self.now.rows) c.len.result (value_of c.counted.result) c.counted.ensures c.len.ensures.count c.len.ensures.few
