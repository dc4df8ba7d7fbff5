-- A line that was taken quickly is the row that the judge would find.
use Rattle.std.proofs.Common.{ℕ, List, [], ◌∷◌}
use Rattle.std.specs.List.{All}
use Rattle.std.proofs.lemmas.List.Elements.{All-from_get_or, All-get_or}
use Rattle.agg_terms.specs.Chains as terms
use Rattle.value_types.specs.Folds.{ty_of}
use Rattle.value_types.specs.declared.ty.Ty.{Ty}
use Rattle.value_types.specs.declared.value.Value.{Value}
use Rattle.value_types.specs.declared.ty.Ty.TheVariants.{Str}
use Rattle.scalar_texts.specs.States.{AllStates, ReadsStates}
use Rattle.tsv_values.specs.Answer.{KeysArePlain}
use Rattle.quick_rows.specs.Keeping.{AreSaidBy}
use Rattle.quick_rows.specs.Taking.{AreSaid}
use Rattle.row_texts.specs.Rows.{AreReadable, AreValues}

pub said-values : (reads : ReadsStates) (types : List Ty) (fields : List (List ℕ)) (row : List Value) → AreSaid types fields row → AreValues reads types fields row
said-values reads [] [] [] said = tt
said-values reads (t ∷ ts) (f ∷ fs) (v ∷ vs) said = (said.0 reads, said-values reads ts fs vs said.1)
said-values reads [] [] (v ∷ vs) said = absurd said
said-values reads [] (f ∷ fs) row said = absurd said
said-values reads (t ∷ ts) [] row said = absurd said
said-values reads (t ∷ ts) (f ∷ fs) [] said = absurd said

-- the same by what reads the states
pub said-by-values : (reads : ReadsStates) (types : List Ty) (fields : List (List ℕ)) (row : List Value) → AreSaidBy reads types fields row → AreValues reads types fields row
said-by-values reads [] [] [] said = tt
said-by-values reads (t ∷ ts) (f ∷ fs) (v ∷ vs) said = (said.0, said-by-values reads ts fs vs said.1)
said-by-values reads [] [] (v ∷ vs) said = absurd said
said-by-values reads [] (f ∷ fs) row said = absurd said
said-by-values reads (t ∷ ts) [] row said = absurd said
said-by-values reads (t ∷ ts) (f ∷ fs) [] said = absurd said

pub readable-states : (takes : terms.Ty → Type 0) (types : List Ty) → AreReadable takes types → All (λ t. AllStates takes (ty_of t)) types
readable-states takes types h =
    All-from_get_or (λ t. AllStates takes (ty_of t)) types Str (λ i less. (All-get_or (λ t. AllStates takes (ty_of t) × KeysArePlain (ty_of t)) types i Str less h).0)
