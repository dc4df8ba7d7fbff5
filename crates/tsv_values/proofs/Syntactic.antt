-- Each text that says something is one of the syntax.
use Rattle.std.proofs.Common.{◌≡◌, ℕ, List, [], ◌∷◌, ◌++◌, length, append_assoc, Result, Ok, refl, sym, ap, subst, ◌∙◌, inl, inr}
use Rattle.first_fault.specs.Grammar.{Then}
use Rattle.agg_terms.specs.Chains.{Ty, Whole, Signed, Str, Arr, MapTy, Nullable, StateOf}
use Rattle.agg_terms.specs.Values as family
use Rattle.field_texts.specs.Syntax.{IsField, IsQuoted, IsSpaces, MoreOf, Opened, SyntaxOf, Token, form_of}
use Rattle.scalar_texts.specs.Answer.{state_answer}
use Rattle.scalar_texts.specs.States.{ReadsStates}
use Rattle.scalar_texts.specs.declared.fault.FieldFault.{FieldFault}
use Rattle.tsv_values.specs.Elements.{Behind, ElementSays, EntrySays, FieldSays, MoreSay, OpenedSay, QuotedSays, Quotes, Said, Spaced}

is_quoted : (bytes text : List ℕ) → Quotes bytes text → IsQuoted text
is_quoted bytes text h = subst IsQuoted (sym h.2) (refl, (h.0, h.1, refl))

quoted_syntax : (meaning : List ℕ → Said) (said : Said) (text : List ℕ) → Spaced (QuotedSays meaning) said text → Then IsSpaces IsQuoted text
quoted_syntax meaning said text h =
    record { front = h.front; rest = h.rest; first = h.first; second = is_quoted h.second.0 h.rest h.second.1; whole = h.whole }

-- a byte, and then a text
token_of : (b : ℕ) (of L : List ℕ → Type 0) → ((t : List ℕ) → of t → L t) → (text front rest : List ℕ) → IsSpaces front → Behind b of rest → text ≡ front ++ rest → Then (Token b) L text
token_of b of L f text front [] sp h e = absurd h
token_of b of L f text front (c ∷ u) sp h e = record {
  front = front ++ b ∷ [];
  rest = u;
  first = record { front = front; rest = b ∷ []; first = sp; second = refl; whole = refl };
  second = f u h.1;
  whole = e ∙ ap (λ d. front ++ d ∷ u) h.0 ∙ sym (append_assoc front (b ∷ []) u);
}

module _ {A : Type 0} (L : List ℕ → Type 0) (says : A → List ℕ → Type 0) (f : (x : A) (t : List ℕ) → Spaced says x t → L t) (closing : ℕ) where
  more_of : (xs : List A) (text : List ℕ) → MoreSay says closing xs text → MoreOf L closing (length xs) text
  more_of [] text h = h
  more_of (x ∷ xs) text h = record {
    front = h.front;
    rest = h.rest;
    first = h.first;
    second = record { front = h.second.front; rest = h.second.rest; first = f x h.second.front h.second.first; second = more_of xs h.second.rest h.second.second; whole = h.second.whole };
    whole = h.whole;
  }

  opened_of : (xs : List A) (text : List ℕ) → OpenedSay says closing xs text → Opened L closing text
  opened_of [] text h = inl h
  opened_of (x ∷ xs) text h = inr (record { front = h.front; rest = h.rest; first = f x h.front h.first; second = (length xs, more_of xs h.rest h.second); whole = h.whole })

entry_of : (K L : List ℕ → Type 0) (key item : Said → List ℕ → Type 0) → ((x : Said) (t : List ℕ) → Spaced key x t → K t) → ((x : Said) (t : List ℕ) → Spaced item x t → L t)
    → (x : Result (family.Value × family.Value) FieldFault) (text : List ℕ) → Spaced (EntrySays key item) x text → Then K (Then (Token 58) L) text
entry_of K L key item f g x text h =
    let k = h.second.0 in
    let v = h.second.1 in
    let t = h.second.2 in
    let first = f k (h.front ++ t.front) (record { front = h.front; rest = t.front; first = h.first; second = t.first; whole = refl }) in
    record {
      front = h.front ++ t.front;
      rest = t.rest;
      first = first;
      second = record { front = t.second.front; rest = t.second.rest; first = t.second.first; second = g v t.second.rest t.second.second; whole = t.second.whole };
      whole = h.whole ∙ ap (λ x. h.front ++ x) t.whole ∙ sym (append_assoc h.front t.front t.rest);
    }

module _ (reads : ReadsStates) where
  element_syntax : (t : Ty) (said : Said) (text : List ℕ) → Spaced (ElementSays reads t) said text → SyntaxOf (form_of t) text
  element_syntax (Whole n) said text h = record { front = h.front; rest = h.rest; first = h.first; second = h.second.0; whole = h.whole }
  element_syntax (Signed w) said text h = record { front = h.front; rest = h.rest; first = h.first; second = h.second.0; whole = h.whole }
  element_syntax Str said text h = quoted_syntax (λ bytes. Ok (family.Bytes bytes)) said text h
  element_syntax (StateOf c ts) said text h = quoted_syntax (state_answer reads (StateOf c ts)) said text h
  element_syntax (Nullable t) said text h = elim h.second [
    | inl g ↦ inl (element_syntax t said text (record { front = h.front; rest = h.rest; first = h.first; second = g; whole = h.whole }))
    | inr g ↦ inr (record { front = h.front; rest = h.rest; first = h.first; second = g.0; whole = h.whole })
  ]
  element_syntax (Arr t) said text h =
      token_of 91 _ (Opened (SyntaxOf (form_of t)) 93)
      (λ u g. opened_of (SyntaxOf (form_of t)) (ElementSays reads t) (element_syntax t) 93 g.1.0 u g.1.1)
      text h.front h.rest h.first h.second h.whole
  element_syntax (MapTy k t) said text h =
      token_of 123 _ (Opened (Then (SyntaxOf (form_of k)) (Then (Token 58) (SyntaxOf (form_of t)))) 125)
      (λ u g. opened_of (Then (SyntaxOf (form_of k)) (Then (Token 58) (SyntaxOf (form_of t)))) (EntrySays (ElementSays reads k) (ElementSays reads t))
      (entry_of (SyntaxOf (form_of k)) (SyntaxOf (form_of t)) (ElementSays reads k) (ElementSays reads t) (element_syntax k) (element_syntax t)) 125 g.1.0 u g.1.1)
      text h.front h.rest h.first h.second h.whole

  pub field_syntax : (t : Ty) (said : Said) (field : List ℕ) → FieldSays reads t said field → IsField (form_of t) field tt
  field_syntax t said field h = record { front = h.front; rest = h.rest; first = element_syntax t said h.front h.first; second = h.second; whole = h.whole }
