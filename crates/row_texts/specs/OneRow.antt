-- A line has one answer, and lines have one.
use Rattle.std.specs.Prelude.{◌≡◌, ◌≢◌, ℕ, List, map, Result, Ok, Err}
use Rattle.agg_terms.specs.Values as family
use Rattle.scalar_texts.specs.States.{ReadsStates}
use Rattle.value_types.specs.Folds.{value_of}
use Rattle.value_types.specs.declared.ty.Ty.{Ty}
use Rattle.value_types.specs.declared.value.Value.{Value}
use Rattle.row_texts.specs.Rows.{AreRows, IsFirstRefused, IsRowAnswer}
use Rattle.row_texts.specs.declared.refusal.LineRefusal.{LineRefusal}
use Rattle.row_texts.specs.declared.refusal.LineRefusal.TheVariants.{OutOfMemory}

-- what is answered to a line, in the definitions
abbrev pub SaidRow : Type 0
SaidRow = Result (List family.Value) LineRefusal

-- The answer is one that may be told, but for want of memory.
abbrev pub IsToldRow : (SaidRow → Type 0) → Result (List Value) LineRefusal → Type 0
IsToldRow told (Ok row) = told (Ok (map value_of row))
IsToldRow told (Err OutOfMemory) = Unit {0}
IsToldRow told (Err refusal) = told (Err refusal)

-- Two answers are one, unless memory ran out: one row, or one refusal with its place.
abbrev pub IsSameRow : Result (List Value) LineRefusal → Result (List Value) LineRefusal → Type 0
IsSameRow one other = IsToldRow (λ a. IsToldRow (λ b. a ≡ b) other) one

-- A line allows one answer.
abbrev pub OneRowAnswer : Type 0
OneRowAnswer = (reads : ReadsStates) (types : List Ty) (line : List ℕ) (one other : Result (List Value) LineRefusal) →
    IsRowAnswer reads types line one → IsRowAnswer reads types line other → IsSameRow one other

-- Lines are one list of rows.
abbrev pub OneListOfRows : Type 0
OneListOfRows = (reads : ReadsStates) (types : List Ty) (lines : List (List ℕ)) (one other : List (List Value)) →
    AreRows reads types lines one → AreRows reads types lines other → map (map value_of) one ≡ map (map value_of) other

-- Or one of them is the first that is refused, for one cause.
abbrev pub OneFirstRefused : Type 0
OneFirstRefused = (reads : ReadsStates) (types : List Ty) (lines : List (List ℕ)) (m n : ℕ) (one other : LineRefusal) → one ≢ OutOfMemory → other ≢ OutOfMemory →
    IsFirstRefused reads types lines m one → IsFirstRefused reads types lines n other → (m ≡ n) × (one ≡ other)

-- And not both.
abbrev pub RowsOrRefused : Type 0
RowsOrRefused = (reads : ReadsStates) (types : List Ty) (lines : List (List ℕ)) (rows : List (List Value)) (n : ℕ) (refusal : LineRefusal) → refusal ≢ OutOfMemory →
    AreRows reads types lines rows → IsFirstRefused reads types lines n refusal → ⊥
