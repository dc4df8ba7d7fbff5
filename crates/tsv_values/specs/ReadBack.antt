-- A value is read back as it was written.
use Rattle.std.specs.Prelude.{◌≡◌, ℕ, ◌≤◌, ◌<◌, ◌^◌, true, slice_index, Ok}
use mir.Val.{hbits}
use Rattle.agg_terms.specs.Chains.{Ty, Whole, Signed, Arr, MapTy, Nullable, StateOf}
use Rattle.agg_terms.specs.Fitting.{fits_value}
use Rattle.agg_terms.specs.Lists.{Each}
use Rattle.agg_terms.specs.Values as family
use Rattle.value_types.specs.Folds.{value_of}
use Rattle.value_types.specs.declared.value.Value.{Value}
use Rattle.scalar_texts.specs.States.{AllStates, ReadsStates}
use Rattle.tsv_values.specs.Writing.{WritesStates, field_text}
use Rattle.tsv_values.specs.Answer.{IsFieldAnswer}

-- Numbers of at most 64 bits.
abbrev pub HasWidth : Ty → Type 0
HasWidth (Whole n) = 2 ^ n ≤ 2 ^ 64
HasWidth (Signed w) = 2 ^ hbits w ≤ 2 ^ 63
HasWidth (Nullable t) = HasWidth t
HasWidth (Arr t) = HasWidth t
HasWidth (MapTy k t) = HasWidth k × HasWidth t
HasWidth _ = Unit {0}

-- A state of a type is written as bytes, and they are read back as it.
pub record IsReadBack (reads : ReadsStates) (writes : WritesStates) (t : Ty) (tree : family.Tree) : Type 0 where
  pub bytes : (i : ℕ) → slice_index (writes t tree) i < 256
  pub same : reads t (writes t tree) ≡ Ok tree

-- Each state that stands in a value of a type, with the type that it has there.
abbrev pub EachState : (Ty → family.Tree → Type 0) → Ty → family.Value → Type 0
EachState Holds (StateOf c ts) (family.Cell tree) = Holds (StateOf c ts) tree
EachState Holds (Nullable t) v = EachState Holds t v
EachState Holds (Arr t) (family.Items vs) = Each (EachState Holds t) (family.values_list vs)
EachState Holds (MapTy k t) (family.Pairs es) = Each (λ e. EachState Holds k e.0 × EachState Holds t e.1) (family.entries_list es)
EachState Holds _ _ = Unit {0}

-- A value whose states are read back is read back: the field that it is written as says it.
abbrev pub ValuesReadBack : Type 0
ValuesReadBack =
    (reads : ReadsStates) (writes : WritesStates) (t : Ty) → HasWidth t →
    (value : Value) → fits_value t (value_of value) ≡ true → EachState (IsReadBack reads writes) t (value_of value)
    → IsFieldAnswer reads t (field_text writes t (value_of value)) (Ok value)

-- Each value of a type without states is, whatever is a state's text.
abbrev pub ValuesWithoutStatesReadBack : Type 0
ValuesWithoutStatesReadBack =
    (reads : ReadsStates) (writes : WritesStates) (t : Ty) → HasWidth t → AllStates (λ state. ⊥) t →
    (value : Value) → fits_value t (value_of value) ≡ true → IsFieldAnswer reads t (field_text writes t (value_of value)) (Ok value)
