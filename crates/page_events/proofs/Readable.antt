-- The tables of the tests can be read with the reader of no states.
use Rattle.std.proofs.Common.{◌≡◌, zero, suc, List, [], ◌∷◌, ◌++◌, ◌+◌, ap, arith, length, length-append, map, subst, sym, ◌∙◌}
use Rattle.std.proofs.lemmas.List.{map-append}
use Rattle.std.proofs.lemmas.List.Elements.{All-append}
use Rattle.agg_defs.specs.declared.schema.Column.{Column}
use Rattle.agg_terms.specs.Chains as terms
use Rattle.batch_reader.specs.Reading.{column_type}
use Rattle.row_texts.specs.Rows.{AreReadable}
use Rattle.scalar_texts.specs.States.{AllStates}
use Rattle.tsv_values.specs.Answer.{KeysArePlain}
use Rattle.value_types.specs.Folds.{ty_of}
use Rattle.value_types.specs.declared.ty.Ty.{Ty}

pub all_states : (t : terms.Ty) → AllStates (λ _. Unit {0}) t
all_states (terms.Whole n) = tt
all_states (terms.Signed w) = tt
all_states terms.Str = tt
all_states (terms.Arr t) = all_states t
all_states (terms.MapTy k t) = (all_states k, all_states t)
all_states (terms.Nullable t) = all_states t
all_states (terms.StateOf c ts) = tt

only : (t : Ty) → AllStates (λ _. Unit {0}) (ty_of t) × KeysArePlain (ty_of t) → AreReadable (λ _. Unit {0}) (t ∷ [])
only t readable zero d lt = readable
only t readable (suc k) d lt = absurd (omega (arith, lt))

pub longer : (columns next : List Column) (column : Column) → next ≡ columns ++ column ∷ [] → length next ≡ length columns + 1
longer columns next column next_is = ap length next_is ∙ length-append columns (column ∷ [])

-- one more column
pub one-more : (columns next : List Column) (column : Column) → AreReadable (λ _. Unit {0}) (map column_type columns) → KeysArePlain (ty_of column.ty) → next ≡ columns ++ column ∷ []
    → AreReadable (λ _. Unit {0}) (map column_type next)
one-more columns next column so_far plain next_is =
    subst (λ (cs : List Column). AreReadable (λ _. Unit {0}) (map column_type cs)) (sym next_is)
    (subst (λ (ts : List Ty). AreReadable (λ _. Unit {0}) ts) (sym (map-append column_type columns (column ∷ [])))
    (All-append (λ (t : Ty). AllStates (λ _. Unit {0}) (ty_of t) × KeysArePlain (ty_of t)) (map column_type columns) (column.ty ∷ []) so_far (only column.ty (all_states (ty_of column.ty), plain))))
