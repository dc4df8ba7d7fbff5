use Rattle.tsv_text.specs.Lines.{lines_of}
use Rattle.batch_reader.proofs.reading.push_last.Goals as goal

pub returns-in-Err : goal.returns-in-Err
returns-in-Err g c = c.refused_behind.ensures (g.R.StateReader.reads c.args.reader.now) c.args.batch.now (lines_of c.args.text.now) c.in-Err.ensures
