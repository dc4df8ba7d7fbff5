use Rattle.batch_reader.specs.Reading.{schema_types}
use Rattle.batch_reader.proofs.Batches.{IsCollected}
use Rattle.batch_reader.proofs.collecting.collect_rows.Given as goal

abbrev pub invariant-loop : goal.invariant-loop
invariant-loop g l =
    IsCollected (g.R.StateReader.reads l.reader) (schema_types l.schema) l.fn.keep.items (g.S.Source.left l.fn.source) (g.S.Source.left l.source) l.fn.ahead l.stream l.batch l.all
    (g.S.Source.faults l.fn.source) (g.S.Source.faults l.source)
