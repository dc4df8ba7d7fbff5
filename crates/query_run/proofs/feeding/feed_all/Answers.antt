use Rattle.std.proofs.Common.{List, OnOk, subst}
use Rattle.group_tables.specs.Tables.{TakesRowsOf}
use Rattle.value_types.specs.declared.value.Value.{Value}
use Rattle.query_run.proofs.Streamed.{whole-range}
use Rattle.query_run.proofs.feeding.feed_all.Goals as goal

pub returns : goal.returns
returns c =
    subst (λ (rows : List (List Value)). OnOk c.feed_batch.result (TakesRowsOf c.args.grouping.now rows c.args.table.now c.feed_batch.new.self))
    (whole-range c.args.batch.now.rows c.len-count.result c.len-count.ensures.count) c.feed_batch.ensures
