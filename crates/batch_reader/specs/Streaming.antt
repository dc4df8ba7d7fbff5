-- The rows of an input that come batch by batch. Each batch leads from what was read before to what was read with it.
use Rattle.std.specs.Prelude.{◌≡◌, ℕ, ◌+◌, Bool, true, false, List, ◌++◌, Option, Result, Ok, Err, OnOk, length}
use Rattle.std.specs.Io.KnownBytes.{Consumes}
use Rattle.value_types.specs.declared.ty.Ty.{Ty}
use Rattle.value_types.specs.declared.value.Value.{Value}
use Rattle.tsv_text.specs.Lines.{lines_of}
use Rattle.scalar_texts.specs.States.{ReadsStates}
use Rattle.columns.specs.Rows.{Rows}
use Rattle.line_reader.specs.Ahead.{Ahead}
use Rattle.line_reader.specs.Limits.{ends_line, AreShort}
use Rattle.row_texts.specs.Rows.{AreRows}
use Rattle.quick_rows.specs.Keeping.{kept_rows}
use Rattle.batch_reader.specs.Reading.{ReadsRows}
use Rattle.batch_reader.specs.declared.fault.RowFault.{RowFault}

-- what a stream is seen as: what is taken and not yet handed out, with the limits; the types of the rows, with a mark for each column that is kept;
-- the number of the row that comes next
pub record Coming : Type 0 where
  pub ahead : Ahead
  pub types : List Ty
  pub keep : List Bool
  pub next : ℕ

-- What was read of an input from its start on: whole lines that break no limit, and these are their rows.
pub record HasRead (reads : ReadsStates) (types : List Ty) (start now : Option (List ℕ)) (first ahead : Ahead) (rows : List (List Value)) : Type 0 where
  pub front : List ℕ
  pub taken : List ℕ
  pub moved : first.held ++ taken ≡ front ++ ahead.held
  pub consumed : Consumes start now taken
  pub whole : ends_line front ≡ true
  pub short : AreShort first.most_line (lines_of front)
  pub most_line : ahead.most_line ≡ first.most_line
  pub room : ahead.room + length front ≡ first.room
  pub read : AreRows reads types (lines_of front) rows

-- More may come behind these rows; or they are all rows of the input; or this is the first thing that is wrong with it.
abbrev pub LeadsTo : ReadsStates → List Ty → Option (List ℕ) → Option (List ℕ) → Ahead → Ahead → List (List Value) → Result Bool RowFault → Type 0
LeadsTo reads types start now first ahead rows (Ok true) = HasRead reads types start now first ahead rows
LeadsTo reads types start now first ahead rows (Ok false) = ReadsRows reads types start now first (Ok (record { types = types; rows = rows }))
LeadsTo reads types start now first ahead rows (Err fault) = ReadsRows reads types start now first (Err fault)

-- The next rows, of which a batch has what is kept, and where they lead whatever was read before.
pub record ReadsMore (reads : ReadsStates) (left now : Option (List ℕ)) (before after : Coming) (batch : Rows) (answer : Result Bool RowFault) : Type 0 where
  pub more : List (List Value)
  pub stands : OnOk answer (batch ≡ kept_rows before.keep (record { types = before.types; rows = more }))
  pub leads : (start : Option (List ℕ)) (first : Ahead) (rows : List (List Value)) → before.next ≡ length rows + 1
      → HasRead reads before.types start left first before.ahead rows → LeadsTo reads before.types start now first after.ahead (rows ++ more) answer

-- What is kept of all rows of the input, or the first thing that is wrong with it.
abbrev pub ReadsKept : ReadsStates → List Ty → List Bool → Option (List ℕ) → Option (List ℕ) → Ahead → Result Rows RowFault → Type 0
ReadsKept reads types keep left now ahead (Ok batch) =
    (all : List (List Value)) × ReadsRows reads types left now ahead (Ok (record { types = types; rows = all })) × (batch ≡ kept_rows keep (record { types = types; rows = all }))
ReadsKept reads types keep left now ahead (Err fault) = ReadsRows reads types left now ahead (Err fault)
