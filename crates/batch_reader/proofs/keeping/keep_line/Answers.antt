use Rattle.std.proofs.Common.{Ok, subst}
use Rattle.tsv_text.specs.Lines.{fields_of}
use Rattle.quick_rows.specs.Keeping.{TakesKept}
use Rattle.quick_rows.specs.declared.row.Taken.{Taken}
use Rattle.batch_reader.proofs.Quick.{readable-states, said-by-values}
use Rattle.batch_reader.proofs.keeping.keep_line.Goals as goal

pub take_kept-requires-clause-readable : goal.take_kept-requires-clause-readable
take_kept-requires-clause-readable g c = readable-states (g.R.StateReader.takes c.args.reader.now) c.args.types.now c.requires.readable

pub returns-in-Ok-Row : goal.returns-in-Ok-Row
returns-in-Ok-Row g c =
    let reads = g.R.StateReader.reads c.args.reader.now in
    let took = subst (λ (t : Taken). TakesKept reads c.args.types.now c.args.keep.now c.args.batch.now c.args.line.now c.take_kept.new.batch (Ok t)) c.in-Ok-Row.field-0-is c.in-Ok-Row.ensures in
    (took.0, said-by-values reads c.args.types.now (fields_of c.args.line.now) took.0 took.1, took.2)
