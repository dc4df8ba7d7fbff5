-- What lines say as rows of given types (manual: "TabSeparated"; which refusal comes first is this project's own choice).
use Rattle.std.specs.Prelude.{◌≡◌, ◌≢◌, ◌⊎◌, ℕ, ◌+◌, List, [], ◌∷◌, ◌++◌, length, All, Result, Ok, Err}
use Rattle.agg_terms.specs.Chains as terms
use Rattle.value_types.specs.Folds.{ty_of}
use Rattle.value_types.specs.declared.ty.Ty.{Ty}
use Rattle.value_types.specs.declared.value.Value.{Value}
use Rattle.tsv_text.specs.Lines.{fields_of}
use Rattle.tsv_values.specs.Answer.{IsFieldAnswer, KeysArePlain}
use Rattle.scalar_texts.specs.States.{AllStates, ReadsStates}
use Rattle.scalar_texts.specs.declared.fault.FieldFault.{FieldFault}
use Rattle.scalar_texts.specs.declared.fault.FieldFault.TheVariants as faults
use Rattle.row_texts.specs.declared.refusal.LineRefusal.{LineRefusal}
use Rattle.row_texts.specs.declared.refusal.LineRefusal.TheVariants.{FieldCount, Field, OutOfMemory}

-- One field and one value for each type, and each field says the value at its place.
abbrev pub AreValues : ReadsStates → List Ty → List (List ℕ) → List Value → Type 0
AreValues reads [] [] [] = Unit {0}
AreValues reads (t ∷ ts) (f ∷ fs) (v ∷ vs) = IsFieldAnswer reads (ty_of t) f (Ok v) × AreValues reads ts fs vs
AreValues reads _ _ _ = ⊥

-- The first refused field from the left stands in this column and has this fault. The first field here stands in column `from`.
abbrev pub IsFirstFault : ReadsStates → ℕ → List Ty → List (List ℕ) → ℕ → FieldFault → Type 0
IsFirstFault reads from [] fields column fault = ⊥
IsFirstFault reads from (t ∷ ts) [] column fault = ⊥
IsFirstFault reads from (t ∷ ts) (f ∷ fs) column fault =
    ((column ≡ from) × IsFieldAnswer reads (ty_of t) f (Err fault))
    ⊎ ((v : Value) × IsFieldAnswer reads (ty_of t) f (Ok v) × IsFirstFault reads (from + 1) ts fs column fault)

-- A field's fault in its column; want of memory is no fault of the field.
abbrev pub refusal_of : ℕ → FieldFault → LineRefusal
refusal_of column faults.OutOfMemory = OutOfMemory
refusal_of column fault = Field column fault

-- The answer to a line: the number of its fields is judged first, and then the fields from left to right. Columns count from 1.
abbrev pub IsRowAnswer : ReadsStates → List Ty → List ℕ → Result (List Value) LineRefusal → Type 0
IsRowAnswer reads types line (Ok row) = AreValues reads types (fields_of line) row
IsRowAnswer reads types line (Err (FieldCount want have)) =
    (want ≡ length types) × (have ≡ length (fields_of line)) × (have ≢ want)
IsRowAnswer reads types line (Err (Field column fault)) =
    (length (fields_of line) ≡ length types) × (fault ≢ faults.OutOfMemory) × IsFirstFault reads 1 types (fields_of line) column fault
IsRowAnswer reads types line (Err OutOfMemory) = Unit {0}

-- Each line is the row at its place.
abbrev pub AreRows : ReadsStates → List Ty → List (List ℕ) → List (List Value) → Type 0
AreRows reads types [] [] = Unit {0}
AreRows reads types (line ∷ lines) (row ∷ rows) = IsRowAnswer reads types line (Ok row) × AreRows reads types lines rows
AreRows reads types _ _ = ⊥

-- The first refused line has this number, counted from 1, and is refused for this: the lines before it are all rows.
pub record IsFirstRefused (reads : ReadsStates) (types : List Ty) (lines : List (List ℕ)) (number : ℕ) (refusal : LineRefusal) : Type 0 where
  pub before : List (List ℕ)
  pub line : List ℕ
  pub after : List (List ℕ)
  pub split : lines ≡ before ++ line ∷ after
  pub rows : List (List Value)
  pub read : AreRows reads types before rows
  pub place : number ≡ length before + 1
  pub refused : IsRowAnswer reads types line (Err refusal)

-- Types whose fields can be read as values of them: the states in them are the reader's, and no key of a map has a state in it.
abbrev pub AreReadable : (terms.Ty → Type 0) → List Ty → Type 0
AreReadable takes types = All (λ t. AllStates takes (ty_of t) × KeysArePlain (ty_of t)) types
