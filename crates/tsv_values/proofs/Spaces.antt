-- Spaces and tokens at the front of a text.
use Rattle.std.proofs.Common.{◌≡◌, ℕ, ◌≤◌, Bool, true, false, List, [], ◌∷◌, ◌++◌, length, append_assoc, append-nil, length-append, refl, sym, ap, subst, ◌∙◌, arith, eqb}
use Rattle.std.proofs.lemmas.Bool.{eqb-true}
use Rattle.first_fault.specs.Grammar.{Then}
use Rattle.field_texts.specs.Syntax.{IsSpaces, Token}
use Rattle.tsv_values.specs.proving.Steps.{after_spaces}

-- no space begins the text
abbrev pub Starts : List ℕ → Type 0
Starts [] = Unit {0}
Starts (b ∷ text) = eqb b 32 ≡ false

pub skip_front : (s u : List ℕ) → IsSpaces s → Starts u → after_spaces (s ++ u) ≡ u
skip_front [] [] sp st = refl
skip_front [] (b ∷ u) sp st = rw st refl
skip_front (b ∷ s) u sp st = rw sp.0 (skip_front s u sp.1 st)

-- a text is spaces and what stands behind them
pub record IsSpaced (text : List ℕ) : Type 0 where
  pub front : List ℕ
  pub spaces : IsSpaces front
  pub whole : text ≡ front ++ after_spaces text
  pub starts : Starts (after_spaces text)

spaced_test : (b : ℕ) (text : List ℕ) (t : Bool) → IsSpaced text → eqb b 32 ≡ t → IsSpaced (b ∷ text)
spaced_test b text true r e =
    let skips : after_spaces (b ∷ text) ≡ after_spaces text = rw e refl in
    record {
      front = b ∷ r.front;
      spaces = (eqb-true b 32 e, r.spaces);
      whole = ap (λ x. b ∷ x) (r.whole ∙ ap (λ x. r.front ++ x) (sym skips));
      starts = subst Starts (sym skips) r.starts;
    }
spaced_test b text false r e =
    let stays : after_spaces (b ∷ text) ≡ b ∷ text = rw e refl in
    record { front = []; spaces = tt; whole = sym stays; starts = subst Starts (sym stays) e }

pub spaced : (text : List ℕ) → IsSpaced text
spaced [] = record { front = []; spaces = tt; whole = refl; starts = tt }
spaced (b ∷ text) = spaced_test b text (eqb b 32) (spaced text) refl

pub skipped : (text : List ℕ) → length (after_spaces text) ≤ length text
skipped text = let r = spaced text in omega (arith, ap length r.whole, length-append r.front (after_spaces text))

-- spaces at the end
pub all_spaces : (text : List ℕ) → IsSpaces text → after_spaces text ≡ []
all_spaces [] sp = refl
all_spaces (b ∷ text) sp = rw sp.0 (all_spaces text sp.1)

pub only_spaces : (text : List ℕ) → after_spaces text ≡ [] → IsSpaces text
only_spaces text e = let r = spaced text in subst IsSpaces (sym (r.whole ∙ ap (λ x. r.front ++ x) e ∙ append-nil r.front)) r.spaces

-- behind spaces, a text of this kind that no space begins
pub spaced_ahead : (M : List ℕ → Type 0) (text front behind : List ℕ) → Then IsSpaces M front → ((m : List ℕ) → M m → Starts (m ++ behind)) → text ≡ front ++ behind
    → (m : List ℕ) × M m × (after_spaces text ≡ m ++ behind)
spaced_ahead M text front behind r starts e = (
  r.rest,
  r.second,
  ap after_spaces (e ∙ ap (λ x. x ++ behind) r.whole ∙ append_assoc r.front r.rest behind) ∙ skip_front r.front (r.rest ++ behind) r.first (starts r.rest r.second),
)

pub ahead_spaced : (M : List ℕ → Type 0) (text m behind : List ℕ) → M m → after_spaces text ≡ m ++ behind → (front : List ℕ) × Then IsSpaces M front × (text ≡ front ++ behind)
ahead_spaced M text m behind is e =
    let r = spaced text in (
      r.front ++ m,
      record { front = r.front; rest = m; first = r.spaces; second = is; whole = refl },
      r.whole ∙ ap (λ x. r.front ++ x) e ∙ sym (append_assoc r.front m behind),
    )

-- a token, and a text behind it
pub token_ahead : (b : ℕ) (text front behind : List ℕ) → eqb b 32 ≡ false → Token b front → text ≡ front ++ behind → after_spaces text ≡ b ∷ behind
token_ahead b text front behind n r e =
    let s = spaced_ahead (λ t. t ≡ b ∷ []) text front behind r (λ m d. subst (λ m. Starts (m ++ behind)) (sym d) n) e in
    s.2 ∙ ap (λ x. x ++ behind) s.1

pub ahead_token : (b : ℕ) (text behind : List ℕ) → after_spaces text ≡ b ∷ behind → (front : List ℕ) × Token b front × (text ≡ front ++ behind)
ahead_token b text behind e = ahead_spaced (λ t. t ≡ b ∷ []) text (b ∷ []) behind refl e

-- a part and what follows it, taken apart
pub then_ahead : (L M : List ℕ → Type 0) (text front behind : List ℕ) → (r : Then L M front) → text ≡ front ++ behind → text ≡ r.front ++ (r.rest ++ behind)
then_ahead L M text front behind r e = e ∙ ap (λ x. x ++ behind) r.whole ∙ append_assoc r.front r.rest behind
