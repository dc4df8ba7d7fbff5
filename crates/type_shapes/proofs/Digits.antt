-- Digits: what they write, and that a list of them has no sign and no point.
use Rattle.std.proofs.Common.{◌≡◌, ℕ, zero, suc, ◌+◌, ◌*◌, ◌^◌, ◌<◌, ◌≤◌, Bool, true, false, cond, List, [], ◌∷◌, ◌++◌, length, take, drop, get_or, refl, sym, ap, subst, ◌∙◌, arith}
use Rattle.std.specs.Prelude.{◌==◌}
use Rattle.std.specs.Char.{digit_value, is_ascii_digit}
use Rattle.std.specs.Int.{IsInRange}
use Rattle.std.specs.List.{prefix_len, before_first, after_first, position_or_len}
use Rattle.std.specs.Str.Parse.{digits_value, digits_value_after}
use Rattle.std.proofs.lemmas.Bool.Decides.{nat_tests}
use Rattle.std.proofs.lemmas.Str.Parse.{IsDigitsTest, IsNumeralModel, numerals_by_value}
use Rattle.type_shapes.specs.Literals.{is_point, has_minus, digits_in}

abbrev pub AreDigits : List ℕ → Type 0
AreDigits [] = Unit {0}
AreDigits (c ∷ cs) = (is_ascii_digit c ≡ true) × AreDigits cs

in_range : (c : ℕ) → is_ascii_digit c ≡ true → IsInRange 48 57 c
in_range c h = (grind (arith, nat_tests), grind (arith, nat_tests))

pub no_minus : (c : ℕ) → is_ascii_digit c ≡ true → (c == 45) ≡ false
no_minus c h = grind (arith, nat_tests)

pub no_point : (c : ℕ) → is_ascii_digit c ≡ true → is_point c ≡ false
no_point c h = grind (arith, nat_tests)

from_range : (c : ℕ) → IsInRange 48 57 c → is_ascii_digit c ≡ true
from_range c h = let low = h.0 in let high = h.1 in grind (arith, nat_tests)

are_digits_test : IsDigitsTest AreDigits
are_digits_test = record { empty = tt; parts = λ c cs h. (in_range c h.0, h.1); more = λ c cs r h. (from_range c r, h) }

-- what std says of digits and what they write
pub numerals : IsNumeralModel AreDigits (digits_value 10)
numerals = numerals_by_value AreDigits are_digits_test

-- digits have no minus before them
pub unsigned : (ds : List ℕ) → AreDigits ds → has_minus ds ≡ false
unsigned [] h = refl
unsigned (c ∷ cs) h = no_minus c h.0

pub minus_is_some : (text : List ℕ) → has_minus text ≡ true → 1 ≤ length text
minus_is_some [] e = absurd cc
minus_is_some (b ∷ bs) e = omega arith

pub AreDigits-append : (ds es : List ℕ) → AreDigits ds → AreDigits es → AreDigits (ds ++ es)
AreDigits-append [] es h k = k
AreDigits-append (c ∷ cs) es h k = (h.0, AreDigits-append cs es h.1 k)

first_leading : (t : Bool) (b : ℕ) (bs : List ℕ) → is_ascii_digit b ≡ t → AreDigits (take (prefix_len is_ascii_digit bs) bs) → AreDigits (take (cond t (1 + prefix_len is_ascii_digit bs) 0) (b ∷ bs))
first_leading true b bs e h = let n : 1 + prefix_len is_ascii_digit bs ≡ suc (prefix_len is_ascii_digit bs) = omega arith in subst (λ n. AreDigits (take n (b ∷ bs))) (sym n) (e, h)
first_leading false b bs e h = tt

-- the digits that begin a text are digits
pub leading : (text : List ℕ) → AreDigits (take (prefix_len is_ascii_digit text) text)
leading [] = tt
leading (b ∷ bs) = first_leading (is_ascii_digit b) b bs refl (leading bs)

-- where a point stands behind digits
pub point_behind : (ds es : List ℕ) → AreDigits ds → position_or_len is_point (ds ++ (46 ∷ es)) ≡ length ds
point_behind [] es h = refl
point_behind (c ∷ cs) es h = rw (no_point c h.0) (ap (λ n. 1 + n) (point_behind cs es h.1) ∙ omega arith)

pub digits_value_after-append : (n : ℕ) (ds es : List ℕ) → digits_value_after 10 n (ds ++ es) ≡ digits_value_after 10 (digits_value_after 10 n ds) es
digits_value_after-append n [] es = refl
digits_value_after-append n (c ∷ cs) es = digits_value_after-append (n * 10 + digit_value c) cs es

-- more digits make no smaller number
pub after_grows : (n : ℕ) (ds : List ℕ) → n ≤ digits_value_after 10 n ds
after_grows n [] = omega arith
after_grows n (c ∷ cs) = let more = after_grows (n * 10 + digit_value c) cs in omega (arith, more)

-- the digit that comes first
pub next_digit : (n : ℕ) (left : List ℕ) (d : ℕ) → 1 ≤ length left → digits_value_after 10 n left ≡ digits_value_after 10 (n * 10 + digit_value (get_or left 0 d)) (drop 1 left)
next_digit n [] d h = absurd (omega arith)
next_digit n (c ∷ cs) d h = refl

-- it fits behind the others
pub digit_fits : (n : ℕ) (left : List ℕ) (d : ℕ) → 1 ≤ length left → digits_value_after 10 n left < 2 ^ 127 → n * 10 + digit_value (get_or left 0 d) < 2 ^ 127
digit_fits n left d h small =
    let step = next_digit n left d h in
    let more = after_grows (n * 10 + digit_value (get_or left 0 d)) (drop 1 left) in
    omega (arith, step, more, small)

drop_more : (n : ℕ) (xs : List ℕ) → drop 1 (drop n xs) ≡ drop (n + 1) xs
drop_more zero xs = refl
drop_more (suc n) [] = let e : suc n + 1 ≡ suc (n + 1) = omega arith in let none : List ℕ = [] in ap (λ i. drop i none) (sym e)
drop_more (suc n) (x ∷ xs) = let e : suc n + 1 ≡ suc (n + 1) = omega arith in drop_more n xs ∙ ap (λ i. drop i (x ∷ xs)) (sym e)

-- a decimal's text at its point
pub record IsCut (text front back : List ℕ) : Type 0 where
  pub before : front ≡ before_first is_point text
  pub after : back ≡ after_first is_point text

pub cut : (text front behind back : List ℕ) (n : ℕ) → n ≡ position_or_len is_point text → front ≡ take n text → behind ≡ drop n text → back ≡ drop 1 behind → IsCut text front back
cut text front behind back n place f b k = record {
  before = f ∙ ap (λ n. take n text) place;
  after = k ∙ ap (drop 1) b ∙ drop_more n text ∙ ap (λ n. drop (n + 1) text) place;
}

pub digits_joined : (text front back : List ℕ) → IsCut text front back → digits_value_after 10 (digits_value_after 10 0 front) back ≡ digits_value 10 (digits_in text)
digits_joined text front back h = sym (digits_value_after-append 0 front back) ∙ ap (λ x. digits_value 10 (x ++ back)) h.before ∙ ap (λ x. digits_value 10 (before_first is_point text ++ x)) h.after
