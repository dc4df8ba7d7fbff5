use Rattle.std.proofs.Common.{◌≡◌, take}
use Rattle.typed_columns.specs.Growth.{with_values}
use Rattle.columns.specs.Rows.{column_at}
use Rattle.batch_reader.specs.proving.Pieces.{rows_in}
use Rattle.batch_reader.proofs.joining.join_column.Given as goal

abbrev pub invariant-loop-i : goal.invariant-loop-i
invariant-loop-i l = l.column ≡ with_values l.initial.column (column_at l.place (rows_in (take l.i l.lanes)))
