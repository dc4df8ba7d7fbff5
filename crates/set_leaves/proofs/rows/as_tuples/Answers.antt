use Rattle.std.proofs.Common.{[], map}
use Rattle.set_leaves.specs.Tuples.{values_tuple}
use Rattle.set_leaves.proofs.Keys.{rows_added}
use Rattle.set_leaves.proofs.rows.as_tuples.Goals as goal

pub loop-key-preserved : goal.loop-key-preserved
loop-key-preserved g c =
    rows_added g.K.Key.tuple [] (map (λ tuple. values_tuple tuple.values) c.loop-key.tuples) (map (λ tuple. values_tuple tuple.values) c.insert.new.self)
    c.as_slice-key-items.result.now c.loop-key.key-index c.key-item.result (values_tuple c.in_ok-values.values) c.loop-key-test.true c.key-item.is c.in_ok-values.ensures
    c.loop-key.invariant c.in_ok-insert.ensures.ok
