use Rattle.batch_reader.proofs.Pending.{IsPending}
use Rattle.batch_reader.proofs.reading.read_all.Given as goal

abbrev pub invariant-loop : goal.invariant-loop
invariant-loop g l =
    IsPending (g.R.StateReader.reads l.reader) l.types (g.S.Source.left l.fn.source) (g.S.Source.left l.source) l.fn.ahead l.ahead l.batch l.block l.stop
    (g.S.Source.faults l.fn.source) (g.S.Source.faults l.source) l.lanes.items
