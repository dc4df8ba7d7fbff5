-- The first line of bytes.
use Rattle.std.proofs.Common.{◌≡◌, ℕ, suc, ◌+◌, ◌-◌, ◌≤◌, ◌<◌, drop-cons, true, false, not, cond, List, [], ◌∷◌, ◌++◌, length, take, drop, get_or, refl, sym, ap, ◌∙◌, arith, subst, inl}
use Rattle.std.proofs.lemmas.List.{take_all, drop_all, take_at, drop_at, drop-drop, length-take-le}
use Rattle.std.proofs.lemmas.Bool.Decides.{nat_tests}
use Rattle.std.proofs.Math.Seq.{take-suc}
use Rattle.line_reader.proofs.Lines.{Kind, newline, other, kind_of}
use Rattle.std.specs.List.{position_or_len}
use Rattle.tsv_text.specs.Lines.{is_newline}
use Rattle.line_reader.specs.Limits.{ends_line, next_of, behind_next, IsTooLong, IsTooLarge, IsUnbroken}

-- how far the first newline is
place-unbroken : (a : List ℕ) → IsUnbroken a → position_or_len is_newline a ≡ length a
place-unbroken [] whole = refl
place-unbroken (x ∷ a) whole = ap (λ t. cond (not t) (1 + position_or_len is_newline a) 0) whole.0 ∙ omega (arith, place-unbroken a whole.1)

place-cut : (a b : List ℕ) (x : ℕ) → IsUnbroken a → is_newline x ≡ true → position_or_len is_newline (a ++ x ∷ b) ≡ length a
place-cut [] b x whole e = ap (λ t. cond (not t) (1 + position_or_len is_newline b) 0) e
place-cut (y ∷ a) b x whole e = ap (λ t. cond (not t) (1 + position_or_len is_newline (a ++ x ∷ b)) 0) whole.0 ∙ omega (arith, place-cut a b x whole.1 e)

-- a text without a newline is its first line
pub next-unbroken : (a : List ℕ) → IsUnbroken a → next_of a ≡ a
next-unbroken a whole = ap (λ (k : ℕ). take k a) (place-unbroken a whole) ∙ take_all (length a) a (omega arith)

pub behind-unbroken : (a : List ℕ) → IsUnbroken a → behind_next a ≡ []
behind-unbroken a whole = ap (λ (k : ℕ). drop (k + 1) a) (place-unbroken a whole) ∙ drop_all (length a + 1) a (omega arith)

-- a newline ends the first line
pub next-cut : (a b : List ℕ) (x : ℕ) → IsUnbroken a → is_newline x ≡ true → next_of (a ++ x ∷ b) ≡ a
next-cut a b x whole e = ap (λ (k : ℕ). take k (a ++ x ∷ b)) (place-cut a b x whole e) ∙ take_at a (x ∷ b) (length a) refl

pub behind-cut : (a b : List ℕ) (x : ℕ) → IsUnbroken a → is_newline x ≡ true → behind_next (a ++ x ∷ b) ≡ b
behind-cut a b x whole e =
    ap (λ (k : ℕ). drop (k + 1) (a ++ x ∷ b)) (place-cut a b x whole e) ∙ sym (drop-drop 1 (length a) (a ++ x ∷ b)) ∙ ap (drop 1) (drop_at a (x ∷ b) (length a) refl)

-- more bytes don't make the first line shorter
place-longer : (a b : List ℕ) → IsUnbroken a → length a ≤ position_or_len is_newline (a ++ b)
place-longer [] b whole = omega arith
place-longer (x ∷ a) b whole = subst (λ t. suc (length a) ≤ cond (not t) (1 + position_or_len is_newline (a ++ b)) 0) (sym whole.0) (omega (arith, place-longer a b whole.1))

-- the last byte of a text
last-byte : (tail : List ℕ) (r : ℕ) → length tail ≡ r + 1 → tail ≡ take r tail ++ get_or tail r 0 ∷ []
last-byte tail r e = sym (take_all (suc r) tail (omega arith)) ∙ take-suc tail r 0 (omega arith)

unbroken-append : (a : List ℕ) (x : ℕ) → IsUnbroken a → is_newline x ≡ false → IsUnbroken (a ++ x ∷ [])
unbroken-append [] x whole e = (e, tt)
unbroken-append (y ∷ a) x whole e = (whole.0, unbroken-append a x whole.1 e)

-- the text has no newline where its last byte is none
pub whole-unbroken : (tail : List ℕ) (r : ℕ) → length tail ≡ r + 1 → IsUnbroken (take r tail) → is_newline (get_or tail r 0) ≡ false → IsUnbroken tail
whole-unbroken tail r e front last = subst IsUnbroken (sym (last-byte tail r e)) (unbroken-append (take r tail) (get_or tail r 0) front last)

pub all-unbroken : (tail : List ℕ) (r : ℕ) → length tail ≤ r → IsUnbroken (take r tail) → IsUnbroken tail
all-unbroken tail r few front = subst IsUnbroken (take_all r tail few) front

-- which limit such a line breaks
pub long-within : (m r : ℕ) (tail : List ℕ) → length tail ≤ r → IsUnbroken (take r tail) → m < length tail → IsTooLong m r tail
long-within m r tail few front long = (omega (arith, ap length (next-unbroken tail (all-unbroken tail r few front))), omega arith)

pub long-over : (m r : ℕ) (tail : List ℕ) → length tail ≡ r + 1 → IsUnbroken (take r tail) → is_newline (get_or tail r 0) ≡ false → m < length tail → IsTooLong m r tail
long-over m r tail e front last long = (omega (arith, ap length (next-unbroken tail (whole-unbroken tail r e front last))), omega arith)

large-open : (m r : ℕ) (tail : List ℕ) → length tail ≡ r + 1 → IsUnbroken tail → length tail ≤ m → IsTooLarge m r tail
large-open m r tail e whole few = let n = ap length (next-unbroken tail whole) in (omega (arith, n), inl (omega (arith, n)))

pub large-cut : (m r : ℕ) (tail : List ℕ) → length tail ≡ r + 1 → IsUnbroken (take r tail) → is_newline (get_or tail r 0) ≡ true → r ≤ m → IsTooLarge m r tail
large-cut m r tail e front last few =
    let n = ap length (ap next_of (last-byte tail r e) ∙ next-cut (take r tail) [] (get_or tail r 0) front last) in
    let wide : length (take r tail) ≡ r = length-take-le r tail (omega arith) in
    (omega (arith, n, wide), inl (omega (arith, n, wide)))

pub large-few : (m r : ℕ) (tail : List ℕ) → length tail ≡ r + 1 → IsUnbroken (take r tail) → length tail ≤ m → IsTooLarge m r tail
large-few m r tail e front few = by_kind (kind_of (get_or tail r 0))
  where
    by_kind : Kind (get_or tail r 0) → IsTooLarge m r tail
    by_kind (newline last) = large-cut m r tail e front last (omega arith)
    by_kind (other last) = large-open m r tail e (whole-unbroken tail r e front last) few

pub is-newline : (b : ℕ) → b ≡ 10 → is_newline b ≡ true
is-newline b e = ap is_newline e

pub not-newline : (b : ℕ) → (b ≡ 10 → ⊥) → is_newline b ≡ false
not-newline b e = grind (arith, nat_tests)

-- one byte more from the end
pub more-unbroken : (text : List ℕ) (n : ℕ) → 0 < n → n ≤ length text → (get_or text (n - 1) 0 ≡ 10 → ⊥) → IsUnbroken (drop n text) → IsUnbroken (drop (n - 1) text)
more-unbroken text n some within other_byte rest =
    let next : suc (n - 1) ≡ n = omega arith in
    subst IsUnbroken (sym (drop-cons text (n - 1) 0 (omega arith))) (not-newline _ other_byte, subst (λ (k : ℕ). IsUnbroken (drop k text)) (sym next) rest)

ends_line-last : (a : List ℕ) (x : ℕ) → is_newline x ≡ true → ends_line (a ++ x ∷ []) ≡ true
ends_line-last [] x e = e
ends_line-last (y ∷ []) x e = e
ends_line-last (y ∷ z ∷ a) x e = ends_line-last (z ∷ a) x e

-- up to a newline
pub ends-here : (text : List ℕ) (n : ℕ) → 0 < n → n ≤ length text → get_or text (n - 1) 0 ≡ 10 → ends_line (take n text) ≡ true
ends-here text n some within last =
    let next : suc (n - 1) ≡ n = omega arith in
    subst (λ (k : ℕ). ends_line (take k text) ≡ true) next (rw (take-suc text (n - 1) 0 (omega arith)) (ends_line-last (take (n - 1) text) _ (is-newline _ last)))

pub none-unbroken : (text : List ℕ) → IsUnbroken (drop (length text) text)
none-unbroken text = subst IsUnbroken (sym (drop_all (length text) text (omega arith))) tt
