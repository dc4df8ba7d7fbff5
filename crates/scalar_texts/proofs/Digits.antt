-- Digits, and the number that they write.
use Rattle.std.proofs.Common.{◌≡◌, ℕ, ◌+◌, ◌-◌, ◌*◌, ◌<◌, ◌≤◌, Bool, true, false, cond, List, [], ◌∷◌, length, get_or, drop, drop-cons, refl, sym, ap, subst, ◌∙◌, arith, add-one, eqb, inl, inr}
use Rattle.std.specs.Char.{is_ascii_digit, digit_value}
use Rattle.std.specs.List.{list_all}
use Rattle.std.specs.Str.Parse.{digits_value_after}
use Rattle.std.proofs.lemmas.Bool.{and_parts, eqb-true, eqb-false}
use Rattle.std.proofs.lemmas.Grind.{common_steps}
use Rattle.std.proofs.lemmas.List.{at_drop_more}
use Rattle.std.proofs.lemmas.List.Folds.{list_all_at}
use Rattle.std.proofs.lemmas.Bool.Decides.{nat_tests}
use Rattle.field_texts.specs.Syntax.{AreDigits, IsDigits, IsNumber}
use Rattle.scalar_texts.specs.Numbers.{split_sign}

-- the number so far is at most the whole
pub after-le : (n : ℕ) (ds : List ℕ) → n ≤ digits_value_after 10 n ds
after-le n [] = omega arith
after-le n (d ∷ ds) = let more : n * 10 + digit_value d ≤ digits_value_after 10 (n * 10 + digit_value d) ds = after-le (n * 10 + digit_value d) ds in omega (arith, more)

pub digit_is : (c : ℕ) → is_ascii_digit c ≡ true → digit_value c ≡ c - 48
digit_is c digit = grind (arith, nat_tests)

-- with one digit more the number so far is at most the whole
pub whole_is_above : (n : ℕ) (ds : List ℕ) (i : ℕ) (total : ℕ) → digits_value_after 10 n (drop i ds) ≡ total → i < length ds → list_all is_ascii_digit ds ≡ true → n * 10 + (get_or ds i 0 - 48) ≤ total
whole_is_above n ds i total e within all =
    let step : digits_value_after 10 n (drop i ds) ≡ digits_value_after 10 (n * 10 + digit_value (get_or ds i 0)) (drop (i + 1) ds) = at_drop_more (digits_value_after 10 n) ds i 0 within in
    let above = after-le (n * 10 + digit_value (get_or ds i 0)) (drop (i + 1) ds) in
    let digit : digit_value (get_or ds i 0) ≡ get_or ds i 0 - 48 = digit_is (get_or ds i 0) (grind (arith, common_steps, list_all_at)) in
    omega arith

in_low : (c : ℕ) → is_ascii_digit c ≡ true → 48 ≤ c
in_low c h = grind (arith, nat_tests)

in_high : (c : ℕ) → is_ascii_digit c ≡ true → c ≤ 57
in_high c h = grind (arith, nat_tests)

pub digit_test : (c : ℕ) → 48 ≤ c → c ≤ 57 → is_ascii_digit c ≡ true
digit_test c l h = grind (arith, nat_tests)

pub are_digits_so : (ds : List ℕ) → list_all is_ascii_digit ds ≡ true → AreDigits ds
are_digits_so [] h = tt
are_digits_so (c ∷ ds) h = let p = and_parts (is_ascii_digit c) (list_all is_ascii_digit ds) h in ((in_low c p.0, in_high c p.0), are_digits_so ds p.1)

pub all_digits : (ds : List ℕ) → AreDigits ds → list_all is_ascii_digit ds ≡ true
all_digits [] h = refl
all_digits (c ∷ ds) h = rw (digit_test c h.0.0 h.0.1) (all_digits ds h.1)

pub some_digits : (ds : List ℕ) → 0 < length ds → AreDigits ds → IsDigits ds
some_digits [] some h = absurd (omega arith)
some_digits (c ∷ ds) some h = h

pub digits_parts : (ds : List ℕ) → IsDigits ds → (0 < length ds) × AreDigits ds
digits_parts [] h = absurd h
digits_parts (c ∷ ds) h = (omega arith, h)

-- one digit more
pub digits_more : (P : Type 0) (ds : List ℕ) (i : ℕ) → i < length ds → is_ascii_digit (get_or ds i 0) ≡ true → (AreDigits (drop i ds) → P) → AreDigits (drop (i + 1) ds) → P
digits_more P ds i lt digit f rest =
    f (subst AreDigits (sym (at_drop ds i lt)) ((in_low (get_or ds i 0) digit, in_high (get_or ds i 0) digit), rest))
  where
    at_drop : (ds : List ℕ) (i : ℕ) → i < length ds → drop i ds ≡ get_or ds i 0 ∷ drop (i + 1) ds
    at_drop ds i lt = rw add-one (drop-cons ds i 0 lt)

pub value_more : (n total : ℕ) (ds : List ℕ) (i : ℕ) → digits_value_after 10 n (drop i ds) ≡ total → i < length ds → is_ascii_digit (get_or ds i 0) ≡ true → digits_value_after 10 (n * 10 + (get_or ds i 0 - 48)) (drop (i + 1) ds) ≡ total
value_more n total ds i e lt digit =
    let step : digits_value_after 10 n (drop i ds) ≡ digits_value_after 10 (n * 10 + digit_value (get_or ds i 0)) (drop (i + 1) ds) = at_drop_more (digits_value_after 10 n) ds i 0 lt in
    ap (λ d. digits_value_after 10 (n * 10 + d) (drop (i + 1) ds)) (sym (digit_is (get_or ds i 0) digit)) ∙ sym step ∙ e

-- a number is digits behind its sign

split_of : (b : ℕ) (t : List ℕ) (x y : Bool) → eqb b 45 ≡ x → eqb b 43 ≡ y → IsNumber (b ∷ t) → IsDigits (let s : Bool × List ℕ = cond x (true, t) (cond y (false, t) (false, b ∷ t)) in s.1)
split_of b t true y m p (inl n) = absurd (let e = eqb-true b 45 m in omega (arith, e, n.0.1, n.0.0))
split_of b t true y m p (inr n) = n.1
split_of b t false true m p (inl n) = absurd (let e = eqb-true b 43 p in omega (arith, e, n.0.1, n.0.0))
split_of b t false true m p (inr n) = n.1
split_of b t false false m p (inl n) = n
split_of b t false false m p (inr (inl e, d)) = absurd (eqb-false b 43 p e)
split_of b t false false m p (inr (inr e, d)) = absurd (eqb-false b 45 m e)

pub number_split : (text : List ℕ) → IsNumber text → IsDigits (split_sign text).1
number_split [] n = n
number_split (b ∷ t) n = split_of b t (eqb b 45) (eqb b 43) refl refl n

of_split : (b : ℕ) (t : List ℕ) (x y : Bool) → eqb b 45 ≡ x → eqb b 43 ≡ y → IsDigits (let s : Bool × List ℕ = cond x (true, t) (cond y (false, t) (false, b ∷ t)) in s.1) → IsNumber (b ∷ t)
of_split b t true y m p d = inr (inr (eqb-true b 45 m), d)
of_split b t false true m p d = inr (inl (eqb-true b 43 p), d)
of_split b t false false m p d = inl d

pub split_number : (text : List ℕ) → IsDigits (split_sign text).1 → IsNumber text
split_number [] d = d
split_number (b ∷ t) d = of_split b t (eqb b 45) (eqb b 43) refl refl d
