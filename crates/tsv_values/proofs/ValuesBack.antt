-- Values of every type are read back as they were written.
use Rattle.std.proofs.Common.{◌≡◌, ℕ, true, false, List, [], ◌∷◌, append-nil, Ok, refl, sym, ap, subst}
use Rattle.std.specs.Bool.{MatchBool}
use Rattle.agg_terms.specs.Chains as terms
use Rattle.agg_terms.specs.Values as family
use Rattle.agg_terms.specs.Lists.{Each}
use Rattle.agg_terms.specs.Fitting.{fits_value, is_nil}
use Rattle.value_types.specs.Folds.{value_of}
use Rattle.value_types.specs.declared.value.Value.{Value}
use Rattle.tsv_text.specs.Escapes.{escaped, IsUnescaped}
use Rattle.scalar_texts.specs.Answer.{Agrees, is_null_text, null_answer}
use Rattle.scalar_texts.specs.States.{AllStates, ReadsStates}
use Rattle.tsv_values.specs.Answer.{IsFieldAnswer, IsFilledAnswer}
use Rattle.tsv_values.specs.Elements.{ElementSays, FieldSays}
use Rattle.tsv_values.specs.ReadBack.{EachState, HasWidth, IsReadBack, ValuesReadBack, ValuesWithoutStatesReadBack}
use Rattle.tsv_values.specs.Writing.{WritesStates, element_text, field_text}
use Rattle.tsv_values.proofs.BackInside.{element_back, spaced_back}
use Rattle.tsv_values.proofs.ReadBack.{back, not_null}

module _ (reads : ReadsStates) (writes : WritesStates) (round_trip : (bytes : List ℕ) → IsUnescaped (escaped bytes) (Ok bytes)) (value : Value) where
  abbrev States : terms.Ty → family.Value → Type 0
  States = EachState (IsReadBack reads writes)

  abbrev Filled : terms.Ty → family.Value → Type 0
  Filled t v = (is_null_text (field_text writes t v) ≡ false) × IsFilledAnswer reads t (field_text writes t v) (Ok value)

  whole_text : (t : terms.Ty) (v : family.Value) (text : List ℕ) → value_of value ≡ v → ElementSays reads t (Ok v) text → FieldSays reads t (Ok (value_of value)) text
  whole_text t v text e h =
      record { front = text; rest = []; first = spaced_back (ElementSays reads t) (Ok (value_of value)) text (subst (λ u. ElementSays reads t (Ok u) text) (sym e) h); second = tt; whole = sym (append-nil text) }

  filled : (t : terms.Ty) → HasWidth t → (v : family.Value) → is_nil v ≡ false → value_of value ≡ v → fits_value t v ≡ true → States t v → Filled t v
  filled (terms.Whole n) w v some e h states = let b = back reads writes round_trip value (terms.Whole n) tt w v some e h states in (b.0, b.1)
  filled (terms.Signed s) w v some e h states = let b = back reads writes round_trip value (terms.Signed s) tt w v some e h states in (b.0, b.1)
  filled terms.Str w v some e h states = let b = back reads writes round_trip value terms.Str tt w v some e h states in (b.0, b.1)
  filled (terms.StateOf c ts) w v some e h states = let b = back reads writes round_trip value (terms.StateOf c ts) tt w v some e h states in (b.0, b.1)
  filled (terms.Nullable t) w family.Nil some e h states = absurd cc
  filled (terms.Nullable t) w v some e h states = filled t w v some e h states
  filled (terms.Arr t) w v some e h states = (not_null 91 _ refl, whole_text (terms.Arr t) v (element_text writes (terms.Arr t) v) e (element_back reads writes round_trip (terms.Arr t) w v h states))
  filled (terms.MapTy k t) w v some e h states = (not_null 123 _ refl, whole_text (terms.MapTy k t) v (element_text writes (terms.MapTy k t) v) e (element_back reads writes round_trip (terms.MapTy k t) w v h states))

  whole : (t : terms.Ty) → HasWidth t → (v : family.Value) → is_nil v ≡ false → value_of value ≡ v → fits_value t v ≡ true → States t v → IsFieldAnswer reads t (field_text writes t v) (Ok value)
  whole t w v some e h states =
      let b = filled t w v some e h states in
      subst (λ null. MatchBool null (Agrees (null_answer t) (Ok value)) (IsFilledAnswer reads t (field_text writes t v) (Ok value))) (sym b.0) b.1

  at_null : (t : terms.Ty) → value_of value ≡ family.Nil → fits_value t family.Nil ≡ true → IsFieldAnswer reads t (field_text writes t family.Nil) (Ok value)
  at_null (terms.Nullable t) e h = ap Ok (sym e)
  at_null (terms.Whole n) e h = absurd cc
  at_null (terms.Signed w) e h = absurd cc
  at_null terms.Str e h = absurd cc
  at_null (terms.StateOf c ts) e h = absurd cc
  at_null (terms.Arr t) e h = absurd cc
  at_null (terms.MapTy k t) e h = absurd cc

  any : (t : terms.Ty) → HasWidth t → (v : family.Value) → value_of value ≡ v → fits_value t v ≡ true → States t v → IsFieldAnswer reads t (field_text writes t v) (Ok value)
  any t w family.Nil e h states = at_null t e h
  any t w (family.Num z) e h states = whole t w (family.Num z) refl e h states
  any t w (family.Bytes b) e h states = whole t w (family.Bytes b) refl e h states
  any t w (family.Items vs) e h states = whole t w (family.Items vs) refl e h states
  any t w (family.Pairs es) e h states = whole t w (family.Pairs es) refl e h states
  any t w (family.Cell tree) e h states = whole t w (family.Cell tree) refl e h states

pub values_read_back : ((bytes : List ℕ) → IsUnescaped (escaped bytes) (Ok bytes)) → ValuesReadBack
values_read_back round_trip reads writes t w value h states = any reads writes round_trip value t w (value_of value) refl h states

-- a value of a type without states has none
each_of : {X : Type 0} (P : X → Type 0) → ((x : X) → P x) → (xs : List X) → Each P xs
each_of P all [] = tt
each_of P all (x ∷ xs) = (all x, each_of P all xs)

no_states : (Holds : terms.Ty → family.Tree → Type 0) (t : terms.Ty) → AllStates (λ state. ⊥) t → (v : family.Value) → EachState Holds t v
no_states Holds (terms.Whole n) none v = tt
no_states Holds (terms.Signed w) none v = tt
no_states Holds terms.Str none v = tt
no_states Holds (terms.StateOf c ts) none v = absurd none
no_states Holds (terms.Nullable t) none v = no_states Holds t none v
no_states Holds (terms.Arr t) none (family.Items vs) = each_of (EachState Holds t) (no_states Holds t none) (family.values_list vs)
no_states Holds (terms.Arr t) none v = tt
no_states Holds (terms.MapTy k t) none (family.Pairs es) =
    each_of (λ e. EachState Holds k e.0 × EachState Holds t e.1) (λ e. (no_states Holds k none.0 e.0, no_states Holds t none.1 e.1)) (family.entries_list es)
no_states Holds (terms.MapTy k t) none v = tt

pub values_without_states_read_back : ValuesReadBack → ValuesWithoutStatesReadBack
values_without_states_read_back back reads writes t w none value h = back reads writes t w value h (no_states (IsReadBack reads writes) t none (value_of value))
