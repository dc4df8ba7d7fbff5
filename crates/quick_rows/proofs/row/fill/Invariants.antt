use Rattle.tsv_text.specs.Lines.{fields_of}
use Rattle.quick_rows.proofs.RowLaws.{Filled}
use Rattle.quick_rows.proofs.row.fill.Given as goal

abbrev pub invariant-loop-i : goal.invariant-loop-i
invariant-loop-i l = Filled l.initial.columns.items l.columns.items l.line l.i (fields_of l.text)
