-- A refused line as a fault of a row.
use Rattle.std.specs.Prelude.{ℕ}
use Rattle.row_texts.specs.declared.refusal.LineRefusal.{LineRefusal}
use Rattle.row_texts.specs.declared.refusal.LineRefusal.TheVariants as line
use Rattle.batch_reader.specs.declared.fault.RowFault.{RowFault}
use Rattle.batch_reader.specs.declared.fault.RowFault.TheVariants.{Row, FieldCount, OutOfMemory}

abbrev pub fault_of : ℕ → LineRefusal → RowFault
fault_of row (line.FieldCount want have) = FieldCount row want have
fault_of row (line.Field column fault) = Row row column fault
fault_of row line.OutOfMemory = OutOfMemory
