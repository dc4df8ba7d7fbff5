-- What it means that a line was taken into columns of some of its fields, and what is done with each field.
use Rattle.std.specs.Prelude.{◌≡◌, Bool, true, false, List, ℕ, [], ◌∷◌, map, Result, Ok, Err}
use Rattle.value_lists.specs.declared.out_of_memory.OutOfMemory.{OutOfMemory}
use Rattle.value_types.specs.declared.chain.Chain.{Chain}
use Rattle.value_types.specs.declared.ty.Ty.{Ty}
use Rattle.value_types.specs.declared.ty.Ty.TheVariants as ty
use Rattle.value_types.specs.declared.value.Value.{Value}
use Rattle.tsv_text.specs.Lines.{fields_of}
use Rattle.typed_columns.specs.Views.{number_ty}
use Rattle.columns.specs.Rows.{Rows, with_row}
use Rattle.quick_rows.specs.declared.row.Taken.{Taken}
use Rattle.quick_rows.specs.declared.row.Taken.TheVariants.{Row, Irregular}
use Rattle.quick_rows.specs.declared.walk.Step.{Step}
use Rattle.quick_rows.specs.declared.walk.Step.TheVariants as step
use Rattle.scalar_texts.specs.States.{ReadsStates}
use Rattle.quick_rows.specs.Taking.{SaysBy}

-- a type of states
abbrev pub IsState : Ty → Type 0
IsState t = (chain : Chain) × (args : List Ty) × (t ≡ ty.State chain args)

-- what may be done with the fields of a type that are kept, or aren't
abbrev pub IsStep : Ty → Bool → Step → Type 0
IsStep t keep step.Keep = keep ≡ true
IsStep t keep (step.Number kind) = (keep ≡ false) × (t ≡ number_ty kind)
IsStep t keep step.Text = (keep ≡ false) × (t ≡ ty.Str)
IsStep t keep (step.Numbers kind) = (keep ≡ false) × (t ≡ ty.Arr (number_ty kind))
IsStep t keep step.Texts = (keep ≡ false) × (t ≡ ty.Arr ty.Str)
IsStep t keep (step.NullableNumber kind) = (keep ≡ false) × (t ≡ ty.Nullable (number_ty kind))
IsStep t keep step.NullableText = (keep ≡ false) × (t ≡ ty.Nullable ty.Str)
IsStep t keep step.State = (keep ≡ false) × IsState t
IsStep t keep step.Leave = keep ≡ false

-- a step for each type, as its column is marked
abbrev pub AreSteps : List Ty → List Bool → List Step → Type 0
AreSteps [] [] [] = Unit {0}
AreSteps (t ∷ ts) (k ∷ ks) (s ∷ ss) = IsStep t k s × AreSteps ts ks ss
AreSteps _ _ _ = ⊥

-- those whose mark is true, as far as there are marks
abbrev pub kept : {A : Type 0} → List Bool → List A → List A
kept [] xs = []
kept (k ∷ keep) [] = []
kept (true ∷ keep) (x ∷ xs) = x ∷ kept keep xs
kept (false ∷ keep) (x ∷ xs) = kept keep xs

-- rows with the kept values alone
abbrev pub kept_rows : List Bool → Rows → Rows
kept_rows keep batch = record { types = kept keep batch.types; rows = map (kept keep) batch.rows }

-- one field and one value for each type, and each field says the value at its place, by what reads the states
abbrev pub AreSaidBy : ReadsStates → List Ty → List (List ℕ) → List Value → Type 0
AreSaidBy reads [] [] [] = Unit {0}
AreSaidBy reads (t ∷ ts) (f ∷ fs) (v ∷ vs) = SaysBy reads t f v × AreSaidBy reads ts fs vs
AreSaidBy reads _ _ _ = ⊥

-- the kept values of the line's row stand at the end of the batch, or the batch is as before
abbrev pub TakesKept : ReadsStates → List Ty → List Bool → Rows → List ℕ → Rows → Result Taken OutOfMemory → Type 0
TakesKept reads types keep batch line after (Ok Row) = (row : List Value) × AreSaidBy reads types (fields_of line) row × (after ≡ with_row batch (kept keep row))
TakesKept reads types keep batch line after (Ok Irregular) = after ≡ batch
TakesKept reads types keep batch line after (Err fault) = after ≡ batch
