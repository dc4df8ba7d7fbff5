use Rattle.std.proofs.Common.{◌≡◌}
use Rattle.quick_rows.specs.Keeping.{kept}
use Rattle.state_codec.specs.Codec.{state_reading}
use Rattle.query_run.proofs.Streamed.{IsFed}
use Rattle.query_run.proofs.feeding.feed_rows.Given as goal

abbrev pub invariant-loop : goal.invariant-loop
invariant-loop g l = record {
  fed : IsFed state_reading l.fn.stream.types l.fn.stream.keep (g.S.Source.left l.fn.source) (g.S.Source.left l.source) l.fn.stream.ahead l.stream l.grouping l.table;
  batch : l.batch.types ≡ kept l.fn.stream.keep l.fn.stream.types;
  quiet : g.S.Source.faults l.source ≡ g.S.Source.faults l.fn.source;
}
