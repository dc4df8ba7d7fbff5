-- No element begins with a space or with a closing byte.
use Rattle.std.proofs.Common.{◌≡◌, ℕ, false, List, [], ◌∷◌, ◌++◌, refl, sym, subst, arith, inl, inr, eqb}
use Rattle.std.proofs.lemmas.Bool.{eqb-true}
use Rattle.std.proofs.lemmas.Bool.Decides.{eqb_tells}
use Rattle.agg_terms.specs.Chains.{Ty, Whole, Signed, Str, Arr, MapTy, Nullable, StateOf}
use Rattle.field_texts.specs.Syntax.{IsDigit, IsNumber}
use Rattle.scalar_texts.specs.States.{ReadsStates}
use Rattle.tsv_values.specs.Elements.{Behind, ElementSays, EntrySays, Said}
use Rattle.tsv_values.proofs.Lists.{AllBegin, Begins}

ne : (a b : ℕ) → (a ≡ b → ⊥) → eqb a b ≡ false
ne a b n = elim (eqb_tells a b) [
  | inl e ↦ absurd (n (eqb-true a b e.0))
  | inr e ↦ e.0
]

digit_begins : (b : ℕ) (text : List ℕ) → IsDigit b → Begins (b ∷ text)
digit_begins b text h = (ne b 32 (λ e. absurd (omega (arith, h, e))), ne b 93 (λ e. absurd (omega (arith, h, e))), ne b 125 (λ e. absurd (omega (arith, h, e))))

byte_begins : (b c : ℕ) (text : List ℕ) → b ≡ c → Begins (c ∷ []) → Begins (b ∷ text)
byte_begins b c text e h = rw e h

number_begins : (text : List ℕ) → IsNumber text → Begins text
number_begins [] h = absurd h
number_begins (b ∷ text) (inl h) = digit_begins b text h.0
number_begins (b ∷ text) (inr (inl e, d)) = byte_begins b 43 text e (refl, refl, refl)
number_begins (b ∷ text) (inr (inr e, d)) = byte_begins b 45 text e (refl, refl, refl)

behind_begins : (c : ℕ) (of : List ℕ → Type 0) (text : List ℕ) → Begins (c ∷ []) → Behind c of text → Begins text
behind_begins c of [] b h = absurd h
behind_begins c of (d ∷ text) b h = byte_begins d c text h.0 b

pub element_begins : (reads : ReadsStates) (t : Ty) (said : Said) (text : List ℕ) → ElementSays reads t said text → Begins text
element_begins reads (Whole n) said text h = number_begins text h.0
element_begins reads (Signed w) said text h = number_begins text h.0
element_begins reads Str said text h = subst Begins (sym h.1.2) (refl, refl, refl)
element_begins reads (StateOf c ts) said text h = subst Begins (sym h.1.2) (refl, refl, refl)
element_begins reads (Nullable t) said text (inl h) = element_begins reads t said text h
element_begins reads (Nullable t) said text (inr h) = subst Begins (sym h.0) (refl, refl, refl)
element_begins reads (Arr t) said text h = behind_begins 91 _ text (refl, refl, refl) h
element_begins reads (MapTy k t) said text h = behind_begins 123 _ text (refl, refl, refl) h

front_begins : (a b : List ℕ) → Begins a → Begins (a ++ b)
front_begins [] b h = absurd h
front_begins (x ∷ a) b h = h

pub entry_begins : (key item : Said → List ℕ → Type 0) → AllBegin key → AllBegin (EntrySays key item)
entry_begins key item b said text h = subst Begins (sym h.2.whole) (front_begins h.2.front h.2.rest (b h.0 h.2.front h.2.first))
