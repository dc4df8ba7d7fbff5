use Rattle.std.proofs.Common.{ap, arith, length}
use Rattle.column_parts.proofs.Cuts.{length-range}
use Rattle.columns.proofs.batch_view.BatchView.row.Goals as goal

pub overflow_add-from : goal.overflow_add-from
overflow_add-from c =
    let inside = c.self.inside in
    omega (arith, c.requires, ap length c.self.view_is, length-range inside.batch.now.rows inside.from inside.to c.self.invariant.0 c.self.invariant.1, c.self.invariant.0)
