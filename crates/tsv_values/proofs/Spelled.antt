-- Each text of the syntax says something.
use Rattle.std.proofs.Common.{◌≡◌, ℕ, zero, suc, List, [], ◌∷◌, ◌++◌, append_assoc, Result, Ok, refl, ap, ◌∙◌, inl, inr}
use Rattle.first_fault.specs.Grammar.{Then}
use Rattle.agg_terms.specs.Chains.{Ty, Whole, Signed, Str, Arr, MapTy, Nullable, StateOf}
use Rattle.agg_terms.specs.Fitting.{fits_bits, fits_width}
use Rattle.agg_terms.specs.Values as family
use Rattle.tsv_text.specs.Escapes.{pieces_bytes}
use Rattle.field_texts.specs.Syntax.{IsQuoted, IsSpaces, MoreOf, Opened, SyntaxOf, Token, form_of}
use Rattle.scalar_texts.specs.Answer.{state_answer}
use Rattle.scalar_texts.specs.Numbers.{number_value}
use Rattle.scalar_texts.specs.States.{ReadsStates}
use Rattle.scalar_texts.specs.declared.fault.FieldFault.{FieldFault}
use Rattle.tsv_values.specs.Elements.{ArraySays, Behind, ElementSays, EntrySays, FieldSays, MapSays, MoreSay, OpenedSay, QuotedSays, Quotes, Said, Spaced, all_of, array_of, entry_of, map_of, ranged}

quotes_of : (text : List ℕ) → IsQuoted text → (bytes : List ℕ) × Quotes bytes text
quotes_of [] h = absurd h
quotes_of (b ∷ text) h = (pieces_bytes h.1.0, (h.1.0, h.1.1, ap (λ c. c ∷ text) h.0 ∙ ap (λ t. 39 ∷ t) h.1.2, refl))

quoted_says : (meaning : List ℕ → Said) (text : List ℕ) → Then IsSpaces IsQuoted text → (said : Said) × Spaced (QuotedSays meaning) said text
quoted_says meaning text h =
    let q = quotes_of h.rest h.second in
    (meaning q.0, record { front = h.front; rest = h.rest; first = h.first; second = (q.0, q.1, refl); whole = h.whole })

-- a token, and then a text
behind_token : (b : ℕ) (of : List ℕ → Type 0) (text : List ℕ) → Then (Token b) of text → Then IsSpaces (Behind b of) text
behind_token b of text h = record {
  front = h.first.front;
  rest = b ∷ h.rest;
  first = h.first.first;
  second = (refl, h.second);
  whole = h.whole ∙ ap (λ f. f ++ h.rest) (h.first.whole ∙ ap (λ t. h.first.front ++ t) h.first.second) ∙ append_assoc h.first.front (b ∷ []) h.rest;
}

module _ {A : Type 0} (L : List ℕ → Type 0) (says : A → List ℕ → Type 0) (f : (t : List ℕ) → L t → (x : A) × Spaced says x t) (closing : ℕ) where
  more_says : (n : ℕ) (text : List ℕ) → MoreOf L closing n text → (xs : List A) × MoreSay says closing xs text
  more_says zero text h = ([], h)
  more_says (suc n) text h =
      let x = f h.second.front h.second.first in
      let xs = more_says n h.second.rest h.second.second in
      (x.0 ∷ xs.0, record { front = h.front; rest = h.rest; first = h.first; second = record { front = h.second.front; rest = h.second.rest; first = x.1; second = xs.1; whole = h.second.whole }; whole = h.whole })

  opened_says : (text : List ℕ) → Opened L closing text → (xs : List A) × OpenedSay says closing xs text
  opened_says text (inl h) = ([], h)
  opened_says text (inr h) =
      let x = f h.front h.first in
      let xs = more_says h.second.0 h.rest h.second.1 in
      (x.0 ∷ xs.0, record { front = h.front; rest = h.rest; first = x.1; second = xs.1; whole = h.whole })

entry_says : (K L : List ℕ → Type 0) (key item : Said → List ℕ → Type 0) → ((t : List ℕ) → K t → (x : Said) × Spaced key x t) → ((t : List ℕ) → L t → (x : Said) × Spaced item x t)
    → (text : List ℕ) → Then K (Then (Token 58) L) text → (x : Result (family.Value × family.Value) FieldFault) × Spaced (EntrySays key item) x text
entry_says K L key item f g text h =
    let k = f h.front h.first in
    let v = g h.second.rest h.second.second in (
      entry_of k.0 v.0,
      record {
        front = k.1.front;
        rest = k.1.rest ++ h.rest;
        first = k.1.first;
        second = (
          k.0,
          v.0,
          record { front = k.1.rest; rest = h.rest; first = k.1.second; second = record { front = h.second.front; rest = h.second.rest; first = h.second.first; second = v.1; whole = h.second.whole }; whole = refl },
          refl,
        );
        whole = h.whole ∙ ap (λ t. t ++ h.rest) k.1.whole ∙ append_assoc k.1.front k.1.rest h.rest;
      },
    )

module _ (reads : ReadsStates) where
  number_says : (t : Ty) (said : Said) (text front rest : List ℕ) → IsSpaces front → ElementSays reads t said rest → text ≡ front ++ rest → (said : Said) × Spaced (ElementSays reads t) said text
  number_says t said text front rest sp h e = (said, record { front = front; rest = rest; first = sp; second = h; whole = e })

  pub element_says : (t : Ty) (text : List ℕ) → SyntaxOf (form_of t) text → (said : Said) × Spaced (ElementSays reads t) said text
  element_says (Whole n) text h = number_says (Whole n) (ranged (fits_bits n) (number_value h.rest)) text h.front h.rest h.first (h.second, refl) h.whole
  element_says (Signed w) text h = number_says (Signed w) (ranged (fits_width w) (number_value h.rest)) text h.front h.rest h.first (h.second, refl) h.whole
  element_says Str text h = quoted_says (λ bytes. Ok (family.Bytes bytes)) text h
  element_says (StateOf c ts) text h = quoted_says (state_answer reads (StateOf c ts)) text h
  element_says (Nullable t) text (inl h) =
      let s = element_says t text h in
      (s.0, record { front = s.1.front; rest = s.1.rest; first = s.1.first; second = inl s.1.second; whole = s.1.whole })
  element_says (Nullable t) text (inr h) = (Ok family.Nil, record { front = h.front; rest = h.rest; first = h.first; second = inr (h.second, refl); whole = h.whole })
  element_says (Arr t) text h =
      let parts = opened_says (SyntaxOf (form_of t)) (ElementSays reads t) (element_says t) 93 h.rest h.second in
      let said = array_of (all_of parts.0) in
      (said, behind_token 91 (ArraySays (ElementSays reads t) said) text (record { front = h.front; rest = h.rest; first = h.first; second = (all_of parts.0, (parts.0, parts.1, refl), refl); whole = h.whole }))
  element_says (MapTy k t) text h =
      let parts = opened_says (Then (SyntaxOf (form_of k)) (Then (Token 58) (SyntaxOf (form_of t)))) (EntrySays (ElementSays reads k) (ElementSays reads t))
      (entry_says (SyntaxOf (form_of k)) (SyntaxOf (form_of t)) (ElementSays reads k) (ElementSays reads t) (element_says k) (element_says t)) 125 h.rest h.second in
      let said = map_of (all_of parts.0) in
      (said, behind_token 123 (MapSays (ElementSays reads k) (ElementSays reads t) said) text (record { front = h.front; rest = h.rest; first = h.first; second = (all_of parts.0, (parts.0, parts.1, refl), refl); whole = h.whole }))

  pub field_says : (t : Ty) (field : List ℕ) → Then (SyntaxOf (form_of t)) IsSpaces field → (said : Said) × FieldSays reads t said field
  field_says t field h = let s = element_says t h.front h.first in (s.0, record { front = h.front; rest = h.rest; first = s.1; second = h.second; whole = h.whole })
