use Rattle.tsv_text.specs.Lines.{fields_of}
use Rattle.quick_rows.proofs.KeptRows.{FilledKept}
use Rattle.quick_rows.proofs.kept.fill_kept.Given as goal

abbrev pub invariant-loop-i : goal.invariant-loop-i
invariant-loop-i g l = FilledKept (g.R.StateReader.reads l.reader) l.types l.keep l.initial.columns.items l.columns.items l.line l.i l.at (fields_of l.text)
