-- The rows of lines of which some columns are kept.
use Rattle.std.specs.Prelude.{◌≡◌, ℕ, Bool, List, Result, Ok, Err}
use Rattle.value_types.specs.declared.ty.Ty.{Ty}
use Rattle.value_types.specs.declared.value.Value.{Value}
use Rattle.columns.specs.Rows.{Rows, no_rows, with_row}
use Rattle.scalar_texts.specs.States.{ReadsStates}
use Rattle.row_texts.specs.Rows.{IsRowAnswer}
use Rattle.row_texts.specs.declared.refusal.LineRefusal.{LineRefusal}
use Rattle.quick_rows.specs.Keeping.{kept, kept_rows}
use Rattle.batch_reader.specs.proving.Pushing.{PushesLines}

-- the kept values of the line's row, or why it is none
abbrev pub KeepsLine : ReadsStates → List Ty → List Bool → Rows → List ℕ → Rows → Result (Unit {0}) LineRefusal → Type 0
KeepsLine reads types keep batch line after (Ok done) = (row : List Value) × IsRowAnswer reads types line (Ok row) × (after ≡ with_row batch (kept keep row))
KeepsLine reads types keep batch line after (Err refusal) = (after ≡ batch) × IsRowAnswer reads types line (Err refusal)

-- what is kept of the rows that lines push onto an empty batch
pub record KeepsLines (reads : ReadsStates) (types : List Ty) (keep : List Bool) (lines : List (List ℕ)) (after : Rows) (pushed : Result (Unit {0}) LineRefusal) : Type 0 where
  pub all : Rows
  pub stands : after ≡ kept_rows keep all
  pub pushes : PushesLines reads (no_rows types) lines all pushed
