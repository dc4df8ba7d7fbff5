-- A text in pieces of whole lines, each read into a lane of its own.
use Rattle.std.specs.Prelude.{◌≡◌, ℕ, Bool, List, [], ◌∷◌, ◌++◌, All, flat_map, is_err}
use Rattle.std.specs.List.{AllZip}
use denote.Ref.{Bor}
use Rattle.value_types.specs.declared.ty.Ty.{Ty}
use Rattle.value_types.specs.declared.value.Value.{Value}
use Rattle.columns.specs.Rows.{no_rows}
use Rattle.tsv_text.specs.Lines.{lines_of}
use Rattle.scalar_texts.specs.States.{ReadsStates}
use Rattle.batch_reader.specs.proving.Pushing.{PushesLines}
use Rattle.batch_reader.specs.declared.lane.Lane.{Lane}

-- the lines of the pieces, one piece behind the other
abbrev pub lines_in : List (Bor (List ℕ)) → List (List ℕ)
lines_in [] = []
lines_in (piece ∷ pieces) = lines_of piece.now ++ lines_in pieces

-- the lane has the piece's rows and no others, up to its first refused line
abbrev pub HasPiece : ReadsStates → List Ty → List ℕ → Lane → Type 0
HasPiece reads types text lane = PushesLines reads (no_rows types) (lines_of text) lane.rows lane.pushed

-- the lines are those of pieces, and each lane has one of them
pub record HasLines (reads : ReadsStates) (types : List Ty) (lines : List (List ℕ)) (lanes : List Lane) : Type 0 where
  pub pieces : List (Bor (List ℕ))
  pub split : lines_in pieces ≡ lines
  pub each : AllZip (λ text lane. HasPiece reads types text.now lane) pieces lanes

-- lanes whose rows are of these types
abbrev pub AreOf : List Ty → List Lane → Type 0
AreOf types lanes = All (λ lane. lane.rows.types ≡ types) lanes

-- its piece has a refused line
abbrev pub is_refused : Lane → Bool
is_refused lane = is_err lane.pushed

-- the rows of the lanes, one lane behind the other
abbrev pub rows_in : List Lane → List (List Value)
rows_in lanes = flat_map (λ lane. lane.rows.rows) lanes
