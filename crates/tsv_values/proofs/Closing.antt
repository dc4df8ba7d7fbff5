-- The text in quotes at the front.
use Rattle.std.proofs.Common.{◌≡◌, ℕ, suc, ◌+◌, ◌<◌, ◌≤◌, Bool, true, false, cond, List, [], ◌∷◌, ◌++◌, length, take, drop, get_or, append-nil, append_assoc, length-append, Some, None, refl, sym, ap, ◌∙◌, arith, inl, inr, ◌&&◌, ◌||◌, eqb, leb}
use Rattle.std.specs.List.{position}
use Rattle.std.proofs.lemmas.Bool.{and_parts, eqb-true, eqb-false, leb-true, or_cases}
use Rattle.std.proofs.lemmas.Bool.Decides.{eqb_tells, nat_tests}
use Rattle.tsv_text.specs.Escapes.{Piece, plain, letter, hexed, piece_text, pieces_then, ArePieces, is_hex_digit}
use Rattle.field_texts.specs.Syntax.{AllFitInQuotes, closed_text}
use Rattle.field_texts.proofs.Marks.{IsHex, hex_stands}
use Rattle.tsv_values.specs.proving.Reading.{behind_quote, is_special}
use Rattle.tsv_values.proofs.First.{Fails, all_fail, first_found}

-- ---- the search for the quote

or_parts : (x y : Bool) → (x || y) ≡ false → (x ≡ false) × (y ≡ false)
or_parts true y e = absurd cc
or_parts false y e = (refl, e)

front_plain : (front u : List ℕ) → Fails is_special front → behind_quote false (front ++ u) ≡ behind_quote false u
front_plain [] u f = refl
front_plain (b ∷ front) u f = let p = or_parts (eqb b 39) (eqb b 92) f.0 in rw (p.0, p.1) (front_plain front u f.1)

pub up_to_special : (rest : List ℕ) (at : ℕ) → position is_special rest ≡ Some at → behind_quote false rest ≡ behind_quote false (drop at rest)
up_to_special rest at found =
    let f = first_found is_special rest at found in
    ap (behind_quote false) f.whole ∙ front_plain (take at rest) (get_or rest at 0 ∷ drop (suc at) rest) f.fails ∙ ap (behind_quote false) (sym f.behind)

pub special_there : (rest : List ℕ) (at : ℕ) → position is_special rest ≡ Some at → (cut : List ℕ) → cut ≡ drop at rest → (0 < length cut) × (is_special (get_or cut 0 0) ≡ true)
special_there rest at found cut e =
    let f = first_found is_special rest at found in
    let whole : cut ≡ get_or rest at 0 ∷ drop (suc at) rest = e ∙ f.behind in
    rw whole (omega arith, f.passes)

pub no_quote : (rest : List ℕ) → position is_special rest ≡ None → behind_quote false rest ≡ None
no_quote rest none = ap (behind_quote false) (sym (append-nil rest)) ∙ front_plain rest [] (all_fail is_special rest none)

pub at_quote : (cut : List ℕ) → 0 < length cut → get_or cut 0 0 ≡ 39 → behind_quote false cut ≡ Some (drop 1 cut)
at_quote [] some e = absurd (omega (arith, some))
at_quote (b ∷ text) some e = rw e refl

other_special : (b : ℕ) → is_special b ≡ true → (b ≡ 39 → ⊥) → b ≡ 92
other_special b e n = elim (or_cases (eqb b 39) (eqb b 92) e) [
  | inl q ↦ absurd (n (eqb-true b 39 q))
  | inr s ↦ eqb-true b 92 s
]

pub at_backslash : (cut : List ℕ) → 1 < length cut → is_special (get_or cut 0 0) ≡ true → (get_or cut 0 0 ≡ 39 → ⊥) → behind_quote false cut ≡ behind_quote false (drop 2 cut)
at_backslash [] two e n = absurd (omega (arith, two))
at_backslash (b ∷ []) two e n = absurd (omega (arith, two))
at_backslash (b ∷ c ∷ text) two e n = rw (other_special b e n) refl

pub lone_backslash : (cut : List ℕ) → 0 < length cut → length cut < 2 → is_special (get_or cut 0 0) ≡ true → (get_or cut 0 0 ≡ 39 → ⊥) → behind_quote false cut ≡ None
lone_backslash [] some few e n = absurd (omega (arith, some))
lone_backslash (b ∷ []) some few e n = rw (other_special b e n) refl
lone_backslash (b ∷ c ∷ text) some few e n = absurd (omega (arith, few))

-- what is found is behind a quote
pub record IsSplit (text rest : List ℕ) : Type 0 where
  pub front : List ℕ
  pub whole : text ≡ front ++ 39 ∷ rest

later : (b : ℕ) (text rest : List ℕ) → IsSplit text rest → IsSplit (b ∷ text) rest
later b text rest s = record { front = b ∷ s.front; whole = ap (λ t. b ∷ t) s.whole }

split_test : (t : Bool) (b : ℕ) (text rest : List ℕ) → eqb b 39 ≡ t → (behind_quote (eqb b 92) text ≡ Some rest → IsSplit text rest) → cond t (Some text) (behind_quote (eqb b 92) text) ≡ Some rest → IsSplit (b ∷ text) rest
split_test true b text rest t f e = let same : text ≡ rest = cc in record { front = []; whole = ap (λ c. c ∷ text) (eqb-true b 39 t) ∙ ap (λ u. 39 ∷ u) same }
split_test false b text rest t f e = later b text rest (f e)

pub behind_split : (escaped : Bool) (text rest : List ℕ) → behind_quote escaped text ≡ Some rest → IsSplit text rest
behind_split true [] rest e = absurd cc
behind_split false [] rest e = absurd cc
behind_split true (b ∷ text) rest e = later b text rest (behind_split false text rest e)
behind_split false (b ∷ text) rest e = split_test (eqb b 39) b text rest refl (behind_split (eqb b 92) text rest) e

pub front_cut : (text rest : List ℕ) (n : ℕ) (front : List ℕ) → behind_quote false text ≡ Some rest → n + (length rest + 1) ≡ length text → front ≡ take n text → text ≡ front ++ 39 ∷ rest
front_cut text rest n front e size f =
    let s = behind_split false text rest e in
    let len : length text ≡ length s.front + (length rest + 1) = ap length s.whole ∙ length-append s.front (39 ∷ rest) ∙ omega arith in
    let same : n ≡ length s.front = omega (arith, size, len) in
    s.whole ∙ ap (λ t. t ++ 39 ∷ rest) (sym (f ∙ ap (λ k. take k text) same ∙ ap (take (length s.front)) s.whole ∙ take_front s.front (39 ∷ rest)))
  where
    take_front : (a b : List ℕ) → take (length a) (a ++ b) ≡ a
    take_front [] b = refl
    take_front (x ∷ a) b = ap (λ t. x ∷ t) (take_front a b)

pub quote_size : (text rest : List ℕ) → behind_quote false text ≡ Some rest → length rest + 1 ≤ length text
quote_size text rest e = let s = behind_split false text rest e in omega (arith, ap length s.whole, length-append s.front (39 ∷ rest))

-- ---- pieces

ne_eqb : (a b : ℕ) → (a ≡ b → ⊥) → eqb a b ≡ false
ne_eqb a b n = elim (eqb_tells a b) [
  | inl e ↦ absurd (n (eqb-true a b e.0))
  | inr e ↦ e.0
]

hex_plain : (b : ℕ) → IsHex b → (eqb b 39 ≡ false) × (eqb b 92 ≡ false)
hex_plain b (inl h) = (ne_eqb b 39 (λ e. absurd (omega (arith, e, h))), ne_eqb b 92 (λ e. absurd (omega (arith, e, h))))
hex_plain b (inr (inl h)) = (ne_eqb b 39 (λ e. absurd (omega (arith, e, h))), ne_eqb b 92 (λ e. absurd (omega (arith, e, h))))
hex_plain b (inr (inr h)) = (ne_eqb b 39 (λ e. absurd (omega (arith, e, h))), ne_eqb b 92 (λ e. absurd (omega (arith, e, h))))

pub behind_pieces : (ps : List Piece) (rest : List ℕ) → AllFitInQuotes ps → behind_quote false (pieces_then ps (39 ∷ rest)) ≡ Some rest
behind_pieces [] rest f = refl
behind_pieces (plain b ∷ ps) rest f = rw (ne_eqb b 39 f.0.0, ne_eqb b 92 f.0.1) (behind_pieces ps rest f.1)
behind_pieces (letter c ∷ ps) rest f = behind_pieces ps rest f.1
behind_pieces (hexed high low ∷ ps) rest f =
    let h = hex_plain high (hex_stands high f.0.0) in
    let l = hex_plain low (hex_stands low f.0.1) in
    rw (h.0, h.1, l.0, l.1) (behind_pieces ps rest f.1)

then-append : (ps : List Piece) (a b : List ℕ) → pieces_then ps a ++ b ≡ pieces_then ps (a ++ b)
then-append [] a b = refl
then-append (p ∷ ps) a b = append_assoc (piece_text p) (pieces_then ps a) b ∙ ap (λ t. piece_text p ++ t) (then-append ps a b)

pub fit_pieces : (ps : List Piece) → AllFitInQuotes ps → ArePieces ps
fit_pieces [] f = tt
fit_pieces (plain b ∷ ps) f = (ne_eqb b 92 f.0.1, fit_pieces ps f.1)
fit_pieces (letter c ∷ ps) f = (ne_eqb c 120 f.0, fit_pieces ps f.1)
fit_pieces (hexed high low ∷ ps) f = (rw f.0.0 f.0.1, fit_pieces ps f.1)

longer : (ps : List Piece) (rest : List ℕ) → length rest < length (pieces_then ps (39 ∷ rest))
longer [] rest = omega arith
longer (plain b ∷ ps) rest = omega (arith, longer ps rest)
longer (letter c ∷ ps) rest = omega (arith, longer ps rest)
longer (hexed high low ∷ ps) rest = omega (arith, longer ps rest)

plain_test : (t : Bool) (b : ℕ) (ps : List Piece) (rest : List ℕ) → eqb b 39 ≡ t → eqb b 92 ≡ false
    → (behind_quote false (pieces_then ps (39 ∷ rest)) ≡ Some rest → AllFitInQuotes ps)
    → cond t (Some (pieces_then ps (39 ∷ rest))) (behind_quote (eqb b 92) (pieces_then ps (39 ∷ rest))) ≡ Some rest → AllFitInQuotes (plain b ∷ ps)
plain_test true b ps rest t s f e = let same : pieces_then ps (39 ∷ rest) ≡ rest = cc in absurd (omega (arith, longer ps rest, ap length same))
plain_test false b ps rest t s f e = ((eqb-false b 39 t, eqb-false b 92 s), f (rw s at e))

pub pieces_fit : (ps : List Piece) (rest : List ℕ) → ArePieces ps → behind_quote false (pieces_then ps (39 ∷ rest)) ≡ Some rest → AllFitInQuotes ps
pieces_fit [] rest p e = tt
pieces_fit (plain b ∷ ps) rest p e = plain_test (eqb b 39) b ps rest refl p.0 (pieces_fit ps rest p.1) e
pieces_fit (letter c ∷ ps) rest p e = (eqb-false c 120 p.0, pieces_fit ps rest p.1 e)
pieces_fit (hexed high low ∷ ps) rest p e =
    let d = and_parts (is_hex_digit high) (is_hex_digit low) p.0 in
    let h = hex_plain high (hex_stands high d.0) in
    let l = hex_plain low (hex_stands low d.1) in
    let e : behind_quote false (pieces_then ps (39 ∷ rest)) ≡ Some rest = rw (h.0, h.1, l.0, l.1) at e in
    ((d.0, d.1), pieces_fit ps rest p.1 e)

pub closed-append : (ps : List Piece) (rest : List ℕ) → closed_text ps ++ rest ≡ pieces_then ps (39 ∷ rest)
closed-append ps rest = then-append ps (39 ∷ []) rest

pub closed-inside : (ps : List Piece) → pieces_then ps [] ++ 39 ∷ [] ≡ closed_text ps
closed-inside ps = then-append ps [] (39 ∷ [])

pub inside-append : (ps : List Piece) (rest : List ℕ) → pieces_then ps [] ++ 39 ∷ rest ≡ pieces_then ps (39 ∷ rest)
inside-append ps rest = then-append ps [] (39 ∷ rest)

-- ---- the loop

pub at_mark : (text rest marked : List ℕ) (at : ℕ) → position is_special rest ≡ Some at → marked ≡ drop at rest → behind_quote false rest ≡ behind_quote false text → behind_quote false text ≡ behind_quote false marked
at_mark text rest marked at found m same = sym same ∙ up_to_special rest at found ∙ ap (behind_quote false) (sym m)
