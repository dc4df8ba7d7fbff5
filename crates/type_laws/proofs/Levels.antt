-- A printed level is read as that level.
use Rattle.std.proofs.Common.{◌≡◌, ℕ, zero, suc, ◌+◌, ◌-◌, ◌*◌, ◌/◌, ◌%◌, ◌^◌, ◌<◌, ◌≤◌, Bool, true, false, cond, nat_le, ◌&&◌, List, [], ◌∷◌, ◌++◌, length, Some, None, refl, sym, ap, subst, ◌∙◌, arith, pow-suc, lt_of_mul-lt-mul_right}
use Rattle.std.specs.Prelude.{◌==◌}
use Rattle.std.specs.Char.{digit_value}
use Rattle.std.specs.Fmt.{decimal}
use Rattle.std.specs.Str.Parse.{digits_value, digits_value_after}
use Rattle.std.proofs.lemmas.Bool.{eqb-true, le-leb, and_from}
use Rattle.std.proofs.lemmas.Nat.{pow-add}
use Rattle.std.proofs.lemmas.Fmt.{decimal_digit}
use Rattle.std.proofs.lemmas.Str.{digit_value_digit}
use Rattle.agg_typing.specs.Literals.{Decimal}
use Rattle.agg_typing.specs.Parameters.{level}
use Rattle.type_texts.specs.ParamTexts.{places_of}
use Rattle.type_shapes.specs.ReadsBack.{with_places, level_literal}

-- What n digits write behind the number so far, where they write a part of one whole exactly: its share of 10^n. Digits
-- that are left out at the end are zeros.
abbrev Writes : ℕ → ℕ → List ℕ → ℕ → Type 0
Writes n so_far digits share = digits_value_after 10 so_far digits * 10 ^ (n - length digits) ≡ so_far * 10 ^ n + share

no_share : (n m : ℕ) → 0 * 10 ^ n ≡ m * 1000000000 → m ≡ 0
no_share n m e = omega arith

writes_none : (n so_far part m : ℕ) → part ≡ 0 → part * 10 ^ n ≡ m * 1000000000 → Writes n so_far [] m
writes_none n so_far part m none e =
    let z : m ≡ 0 = no_share n m (subst (λ p. p * 10 ^ n ≡ m * 1000000000) none e) in
    let all : n - 0 ≡ n = omega arith in
    let sum : so_far * 10 ^ n ≡ so_far * 10 ^ n + m = omega (arith, z) in
    ap (λ k. so_far * 10 ^ k) all ∙ sum

writes_one : (n so_far d share : ℕ) (digits : List ℕ) → d < 10 → Writes n (so_far * 10 + d) digits share → Writes (suc n) so_far ((48 + d) ∷ digits) (d * 10 ^ n + share)
writes_one n so_far d share digits small h =
    let value : digit_value (48 + d) ≡ d = omega (arith, digit_value_digit (48 + d) (omega arith, omega (arith, small))) in
    let step : digits_value_after 10 (so_far * 10 + digit_value (48 + d)) digits * 10 ^ (n - length digits) ≡ (so_far * 10 + d) * 10 ^ n + share =
    ap (λ v. digits_value_after 10 (so_far * 10 + v) digits * 10 ^ (n - length digits)) value ∙ h in
    let shorter : suc n - suc (length digits) ≡ n - length digits = omega arith in
    let ten : so_far * 10 ^ suc n ≡ so_far * (10 ^ n * 10) = ap (λ x. so_far * x) (pow-suc 10 n) in
    let sum : (so_far * 10 + d) * 10 ^ n + share ≡ so_far * 10 ^ suc n + (d * 10 ^ n + share) = omega (arith, ten) in
    ap (λ k. digits_value_after 10 (so_far * 10 + digit_value (48 + d)) digits * 10 ^ k) shorter ∙ step ∙ sum

-- the share that is left behind the first digit
left : (p d rest part m : ℕ) → part * 10 ≡ d * 1000000000 + rest → part * (p * 10) ≡ m * 1000000000 → (d * p ≤ m) × (rest * p ≡ (m - d * p) * 1000000000)
left p d rest part m cut whole =
    let scaled : part * 10 * p ≡ (d * 1000000000 + rest) * p = ap (λ x. x * p) cut in
    let first : d * p ≤ m = omega (arith, scaled, whole) in
    (first, omega (arith, scaled, whole, first))

-- the first digit, where the part isn't nothing
by_part : (n so_far part m : ℕ) (nothing : Bool) → part < 1000000000 → part * 10 ^ suc n ≡ m * 1000000000 → (part == 0) ≡ nothing
    → ((share : ℕ) → part * 10 % 1000000000 * 10 ^ n ≡ share * 1000000000 → Writes n (so_far * 10 + part * 10 / 1000000000) (places_of n (part * 10 % 1000000000)) share)
    → Writes (suc n) so_far (cond nothing [] ((48 + part * 10 / 1000000000) ∷ places_of n (part * 10 % 1000000000))) m
by_part n so_far part m true small e t more = writes_none (suc n) so_far part m (eqb-true part 0 t) e
by_part n so_far part m false small e t more =
    let d : ℕ = part * 10 / 1000000000 in
    let cut : part * 10 ≡ d * 1000000000 + part * 10 % 1000000000 = omega arith in
    let whole : part * (10 ^ n * 10) ≡ m * 1000000000 = ap (λ x. part * x) (sym (pow-suc 10 n)) ∙ e in
    let rest = left (10 ^ n) d (part * 10 % 1000000000) part m cut whole in
    let sum : d * 10 ^ n + (m - d * 10 ^ n) ≡ m = let first = rest.0 in omega (arith, first) in
    subst (Writes (suc n) so_far ((48 + d) ∷ places_of n (part * 10 % 1000000000))) sum
    (writes_one n so_far d (m - d * 10 ^ n) (places_of n (part * 10 % 1000000000)) (omega (arith, small)) (more (m - d * 10 ^ n) rest.1))

writes : (n so_far part m : ℕ) → part < 1000000000 → part * 10 ^ n ≡ m * 1000000000 → Writes n so_far (places_of n part) m
writes zero so_far part m small e = writes_none zero so_far part m (omega (arith, e)) e
writes (suc n) so_far part m small e =
    by_part n so_far part m (part == 0) small e refl (λ share f. writes n (so_far * 10 + part * 10 / 1000000000) (part * 10 % 1000000000) share (omega arith) f)

-- some digits of a part below one whole are a decimal of at most nine places
decimal_level : (places : ℕ) (digits part : ℕ) → 1 ≤ places → places ≤ 9 → digits * 10 ^ (9 - places) ≡ part → part < 1000000000 → level (Decimal digits places) ≡ Some part
decimal_level places digits part some few value small =
    let sum : places + (9 - places) ≡ 9 = omega arith in
    let whole : 10 ^ places * 10 ^ (9 - places) ≡ 1000000000 = sym (pow-add 10 places (9 - places)) ∙ ap (λ n. 10 ^ n) sum in
    let below : digits * 10 ^ (9 - places) < 10 ^ places * 10 ^ (9 - places) = omega (arith, value, whole, small) in
    let fits : digits < 10 ^ places = lt_of_mul-lt-mul_right (10 ^ (9 - places)) below in
    let test : (nat_le 1 places && (nat_le places 9 && nat_le digits (10 ^ places))) ≡ true =
    and_from _ _ (le-leb 1 places some) (and_from _ _ (le-leb places 9 few) (le-leb digits (10 ^ places) (omega (arith, fits)))) in
    ap (λ t. cond t (Some (digits * 10 ^ (9 - places))) None) test ∙ ap Some value

few_places : (n part : ℕ) → length (places_of n part) ≤ n
few_places zero part = omega arith
few_places (suc n) part = one_more (part == 0) (48 + part * 10 / 1000000000) (places_of n (part * 10 % 1000000000)) n (few_places n (part * 10 % 1000000000))
  where
    one_more : (t : Bool) (d : ℕ) (ds : List ℕ) (n : ℕ) → length ds ≤ n → length (cond t [] (d ∷ ds)) ≤ suc n
    one_more true d ds n h = omega arith
    one_more false d ds n h = omega arith

-- a part of one whole
part_read : (part : ℕ) (digits : List ℕ) → digits ≡ places_of 9 part → part < 1000000000 → level (with_places 0 digits) ≡ Some part
part_read part [] is small =
    let w : Writes 9 0 [] part = subst (λ ds. Writes 9 0 ds part) (sym is) (writes 9 0 part part small refl) in
    ap Some (omega (arith, w))
part_read part (d ∷ digits) is small =
    let w : Writes 9 0 (d ∷ digits) part = subst (λ ds. Writes 9 0 ds part) (sym is) (writes 9 0 part part small refl) in
    let few : length (d ∷ digits) ≤ 9 = subst (λ ds. length ds ≤ 9) (sym is) (few_places 9 part) in
    let zero_first : decimal 0 ≡ 48 ∷ [] = decimal_digit 0 (omega arith) in
    ap (λ z. level (Decimal (digits_value 10 (z ++ (d ∷ digits))) (length (d ∷ digits)))) zero_first
    ∙ decimal_level (length (d ∷ digits)) (digits_value_after 10 0 (d ∷ digits)) part (omega arith) few (omega (arith, w)) small

whole_read : (whole : ℕ) (digits : List ℕ) → whole ≤ 1 → digits ≡ [] → level (with_places whole digits) ≡ Some (whole * 1000000000)
whole_read whole [] few is = ap (λ t. cond t (Some (whole * 10 ^ 9)) None) (le-leb whole 1 few)
whole_read whole (d ∷ digits) few is = absurd cc

-- A level from 0 to 1 is read back from its text.
pub level_read : (n : ℕ) → n ≤ 1000000000 → level (level_literal n) ≡ Some n
level_read n few = by_whole (n / 1000000000) (n % 1000000000) (omega arith) (omega arith) (omega arith)
  where
    by_whole : (whole part : ℕ) → n ≡ whole * 1000000000 + part → part < 1000000000 → whole ≤ 1 → level (with_places whole (places_of 9 part)) ≡ Some n
    by_whole zero part e small one = part_read part (places_of 9 part) refl small ∙ ap Some (omega (arith, e))
    by_whole (suc whole) part e small one =
        let none : part ≡ 0 = omega (arith, e, one, few) in
        whole_read (suc whole) (places_of 9 part) one (ap (places_of 9) none) ∙ ap Some (omega (arith, e, none))
