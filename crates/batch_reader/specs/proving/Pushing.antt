-- The rows of lines at the end of a batch.
use Rattle.std.specs.Prelude.{◌≡◌, ℕ, ◌+◌, length, List, ◌∷◌, ◌++◌, Result, Ok, Err}
use Rattle.value_types.specs.declared.value.Value.{Value}
use Rattle.columns.specs.Rows.{Rows, with_row, with_rows}
use Rattle.scalar_texts.specs.States.{ReadsStates}
use Rattle.row_texts.specs.Rows.{AreRows, IsRowAnswer}
use Rattle.row_texts.specs.declared.refusal.LineRefusal.{LineRefusal}
use Rattle.row_texts.specs.declared.refusal.LineRefusal.TheVariants as line
use Rattle.batch_reader.specs.declared.fault.RowFault.{RowFault}
use Rattle.batch_reader.specs.declared.fault.RowFault.TheVariants.{Row, FieldCount, OutOfMemory}

-- the line's row, or why it is none
abbrev pub PushesLine : ReadsStates → Rows → List ℕ → Rows → Result (Unit {0}) LineRefusal → Type 0
PushesLine reads batch line after (Ok done) = (row : List Value) × IsRowAnswer reads batch.types line (Ok row) × (after ≡ with_row batch row)
PushesLine reads batch line after (Err refusal) = (after ≡ batch) × IsRowAnswer reads batch.types line (Err refusal)

-- the lines before the first that is refused are rows at the end of the batch
pub record StopsBefore (reads : ReadsStates) (batch after : Rows) (lines : List (List ℕ)) (refusal : LineRefusal) : Type 0 where
  pub before : List (List ℕ)
  pub line : List ℕ
  pub behind : List (List ℕ)
  pub split : lines ≡ before ++ line ∷ behind
  pub rows : List (List Value)
  pub read : AreRows reads batch.types before rows
  pub pushed : after ≡ with_rows batch rows
  pub refused : IsRowAnswer reads batch.types line (Err refusal)

-- the rows of all lines, or of those before the first that is refused
abbrev pub PushesLines : ReadsStates → Rows → List (List ℕ) → Rows → Result (Unit {0}) LineRefusal → Type 0
PushesLines reads batch lines after (Ok done) = (rows : List (List Value)) × AreRows reads batch.types lines rows × (after ≡ with_rows batch rows)
PushesLines reads batch lines after (Err refusal) = StopsBefore reads batch after lines refusal

-- the same, where want of memory says nothing
abbrev pub PushesText : ReadsStates → Rows → List (List ℕ) → Rows → Result (Unit {0}) LineRefusal → Type 0
PushesText reads batch lines after (Ok done) = PushesLines reads batch lines after (Ok done)
PushesText reads batch lines after (Err line.OutOfMemory) = Unit {0}
PushesText reads batch lines after (Err refusal) = StopsBefore reads batch after lines refusal

-- The first refused line of a block, as the row of this number behind the rows of the batch.
pub record RefusesBehind (reads : ReadsStates) (batch : Rows) (lines : List (List ℕ)) (number : ℕ) (refusal : LineRefusal) : Type 0 where
  pub before : List (List ℕ)
  pub line : List ℕ
  pub behind : List (List ℕ)
  pub split : lines ≡ before ++ line ∷ behind
  pub rows : List (List Value)
  pub read : AreRows reads batch.types before rows
  pub place : number ≡ length batch.rows + length rows + 1
  pub refused : IsRowAnswer reads batch.types line (Err refusal)

-- the rows of a block behind those of the batch, with the number of the row that comes next, or the first that is refused
abbrev pub PushesBlock : ReadsStates → Rows → List (List ℕ) → Rows → Result ℕ RowFault → Type 0
PushesBlock reads batch lines after (Ok next) =
    (rows : List (List Value)) × AreRows reads batch.types lines rows × (after ≡ with_rows batch rows) × (next ≡ length after.rows + 1)
PushesBlock reads batch lines after (Err (Row row column fault)) = RefusesBehind reads batch lines row (line.Field column fault)
PushesBlock reads batch lines after (Err (FieldCount row want have)) = RefusesBehind reads batch lines row (line.FieldCount want have)
PushesBlock reads batch lines after (Err OutOfMemory) = Unit {0}
PushesBlock reads batch lines after (Err fault) = ⊥
