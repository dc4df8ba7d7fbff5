use Rattle.std.proofs.Common.{[], ap, map}
use Rattle.value_types.specs.Folds.{value_of}
use Rattle.set_leaves.specs.Rows.{rows_in}
use Rattle.set_leaves.proofs.Keys.{rows_added}
use Rattle.set_leaves.proofs.state.rows_from.Goals as goal

pub loop-row-preserved : goal.loop-row-preserved
loop-row-preserved c =
    rows_added (map value_of) [] (rows_in c.loop-row.rows) (rows_in c.insert.new.self) c.args.stored.now c.loop-row.row-index c.row-item.result
    (map value_of c.as_slice.result.now) c.loop-row-test.true c.row-item.is (ap (map value_of) c.as_slice.ensures) c.loop-row.invariant c.in_ok-insert.ensures.ok
