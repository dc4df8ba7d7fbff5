-- What is answered of an input whose lines are rows. Every complete line comes before what is wrong behind it.
use Rattle.std.specs.Prelude.{◌≡◌, ℕ, ◌+◌, ◌-◌, ◌≤◌, ◌⊎◌, true, List, [], ◌++◌, Option, IfSome, Result, Ok, Err, length, map}
use Rattle.std.specs.Io.KnownBytes.{IsAtEnd}
use Rattle.agg_ports.specs.Causes.{Rose}
use Rattle.agg_defs.specs.declared.schema.Column.{Column}
use Rattle.agg_defs.specs.declared.schema.Schema.{Schema}
use Rattle.value_types.specs.declared.ty.Ty.{Ty}
use Rattle.value_types.specs.declared.value.Value.{Value}
use Rattle.tsv_text.specs.Lines.{lines_of}
use Rattle.scalar_texts.specs.States.{ReadsStates}
use Rattle.columns.specs.Rows.{Rows}
use Rattle.line_reader.specs.Ahead.{Ahead, IsInput}
use Rattle.line_reader.specs.Limits.{ends_line, AreShort, IsBegun, IsTooLong, IsTooLarge}
use Rattle.line_reader.specs.declared.stop.Stop.{Stop}
use Rattle.line_reader.specs.declared.stop.Stop.TheVariants as stop
use Rattle.row_texts.specs.Rows.{AreRows, IsFirstRefused}
use Rattle.row_texts.specs.declared.refusal.LineRefusal.{LineRefusal}
use Rattle.row_texts.specs.declared.refusal.LineRefusal.TheVariants as line
use Rattle.batch_reader.specs.declared.fault.RowFault.{RowFault}
use Rattle.batch_reader.specs.declared.fault.RowFault.TheVariants.{Row, FieldCount, TooLong, TooLarge, Read, OutOfMemory}

-- the types of a table's columns
abbrev pub column_type : Column → Ty
column_type column = column.ty

abbrev pub schema_types : Schema → List Ty
schema_types schema = map column_type schema.columns

-- The front of the input is whole lines that break no limit, and `rest` is what follows them.
pub record IsFront (ahead : Ahead) (input front rest : List ℕ) : Type 0 where
  pub split : input ≡ front ++ rest
  pub whole : (ends_line front ≡ true) ⊎ (rest ≡ [])
  pub short : AreShort ahead.most_line (lines_of front)
  pub within : length front ≤ ahead.room

-- All lines of the front are rows, and this holds of the rows and of what follows.
pub record AreRowsUpTo (reads : ReadsStates) (types : List Ty) (ahead : Ahead) (input : List ℕ) (Holds : ℕ → List (List Value) → List ℕ → Type 0) : Type 0 where
  pub front : List ℕ
  pub rest : List ℕ
  pub is_front : IsFront ahead input front rest
  pub rows : List (List Value)
  pub read : AreRows reads types (lines_of front) rows
  pub holds : Holds (ahead.room - length front) rows rest

-- The first refused line of the front has this number, and is refused for this.
pub record RefusesAt (reads : ReadsStates) (types : List Ty) (ahead : Ahead) (input : List ℕ) (row : ℕ) (refusal : LineRefusal) : Type 0 where
  pub front : List ℕ
  pub rest : List ℕ
  pub is_front : IsFront ahead input front rest
  pub refused : IsFirstRefused reads types (lines_of front) row refusal

-- What follows is bytes that were taken, which are no complete line and break no limit, and then what the source has left, where it tells it.
pub record IsTakenOpen (now : Option (List ℕ)) (most_line room : ℕ) (rest : List ℕ) : Type 0 where
  pub held : List ℕ
  pub behind : List ℕ
  pub split : rest ≡ held ++ behind
  pub begun : IsBegun most_line room held
  pub told : IfSome now (λ told. behind ≡ told)

-- The rows of the whole input, or the first thing that is wrong with it: a refused row, a broken limit, or a fault of reading. Each comes
-- behind all complete lines before it, and those are rows.
abbrev pub IsBatchAnswer : ReadsStates → List Ty → Option (List ℕ) → Ahead → List ℕ → Result Rows RowFault → Type 0
IsBatchAnswer reads types now ahead input (Ok batch) =
    (batch.types ≡ types) × IsAtEnd now × IsFront ahead input input [] × AreRows reads types (lines_of input) batch.rows
IsBatchAnswer reads types now ahead input (Err (Row row column fault)) = RefusesAt reads types ahead input row (line.Field column fault)
IsBatchAnswer reads types now ahead input (Err (FieldCount row want have)) = RefusesAt reads types ahead input row (line.FieldCount want have)
IsBatchAnswer reads types now ahead input (Err (TooLong row)) =
    AreRowsUpTo reads types ahead input (λ room rows rest. (row ≡ length rows + 1) × IsTooLong ahead.most_line room rest)
IsBatchAnswer reads types now ahead input (Err TooLarge) = AreRowsUpTo reads types ahead input (λ room rows rest. IsTooLarge ahead.most_line room rest)
IsBatchAnswer reads types now ahead input (Err Read) = AreRowsUpTo reads types ahead input (λ room rows rest. IsTakenOpen now ahead.most_line room rest)
IsBatchAnswer reads types now ahead input (Err OutOfMemory) = Unit {0}

-- What reading comes to behind the last block of lines, by why that one ends.
abbrev pub ends_as : Stop → Rows → ℕ → Result Rows RowFault
ends_as stop.End batch next = Ok batch
ends_as stop.Read batch next = Err Read
ends_as stop.TooLong batch next = Err (TooLong next)
ends_as stop.TooLarge batch next = Err TooLarge
ends_as stop.More batch next = Err OutOfMemory

-- The answer to what a reader of lines and its source have left.
pub record ReadsRows (reads : ReadsStates) (types : List Ty) (left now : Option (List ℕ)) (ahead : Ahead) (answer : Result Rows RowFault) : Type 0 where
  pub input : List ℕ
  pub from : IsInput left ahead input
  pub reading : IsBatchAnswer reads types now ahead input answer

-- The source's count of faults rose where the answer is a fault of reading, and is as before where it is a batch. A refused row may stand before
-- a fault of reading, and want of memory says nothing.
abbrev pub RowCause : {A : Type 0} → ℕ → ℕ → Result A RowFault → Type 0
RowCause before now (Ok batch) = now ≡ before
RowCause before now (Err Read) = (before ≤ now) × Rose before now
RowCause before now (Err fault) = Unit {0}
