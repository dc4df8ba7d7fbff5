-- The number at the front of a text.
use Rattle.std.proofs.Common.{◌≡◌, add-one, ℕ, zero, suc, ℤ, pos, ◌+◌, ◌-◌, ◌*◌, ◌^◌, ◌%◌, ◌<◌, ◌≤◌, ◌≢◌, Bool, true, false, List, [], ◌∷◌, ◌++◌, length, take, drop, get_or, eqb, refl, sym, ap, subst, ◌∙◌, arith, append_assoc, inl, inr}
use Rattle.std.specs.Char.{digit_value, is_ascii_digit}
use Rattle.std.specs.List.{list_all}
use Rattle.std.specs.Str.Parse.{AllDigits, digits_value}
use Rattle.std.specs.Cmp.Derive.{both_true}
use Rattle.std.proofs.lemmas.Bool.Decides.{eqb_tells, nat_tests}
use Rattle.std.proofs.lemmas.Grind.{common_steps}
use Rattle.std.proofs.Math.Nat.{mod-eq_of_lt, pow-le-pow_right}
use Rattle.std.proofs.lemmas.Bool.{and_parts}
use Rattle.std.proofs.lemmas.Int.Digits.{digits_value-lt, digits_value_more, digits_value_push}
use Rattle.std.proofs.lemmas.List.{length-take-le, take-append-drop}
use Rattle.std.proofs.lemmas.List.Folds.{list_all-append}
use Rattle.field_texts.specs.Syntax.{AreDigits, IsDigits, IsNumber}
use Rattle.scalar_texts.specs.Numbers.{number_value, signed, split_sign}
use Rattle.scalar_texts.proofs.Digits.{are_digits_so, digit_is, digits_parts, some_digits}
use Rattle.quick_rows.proofs.Fronts.{IsPart, keeps_on}
use Rattle.quick_rows.proofs.Numbers.{number_said}

-- the digits that were read, and the number that they write
pub record DigitsSoFar (text left : List ℕ) (number : ℕ) : Type 0 where
  pub digits : List ℕ
  pub split : text ≡ digits ++ left
  pub plain : list_all is_ascii_digit digits ≡ true
  pub value : digits_value 10 digits ≡ number

pub one_digit_more : (text left : List ℕ) (number : ℕ) → DigitsSoFar text left number → 0 < length left → is_ascii_digit (get_or left 0 0) ≡ true →
    DigitsSoFar text (take (length left - 1) (drop 1 left)) (number * 10 + (get_or left 0 0 - 48))
one_digit_more text [] number so_far some digit = absurd (omega arith)
one_digit_more text (c ∷ after) number so_far some digit =
    let whole : take (length (c ∷ after) - 1) after ≡ after = grind (arith, common_steps) in
    record {
      digits = so_far.digits ++ c ∷ [];
      split = so_far.split ∙ rw whole (sym (append_assoc so_far.digits (c ∷ []) after));
      plain = list_all-append is_ascii_digit so_far.digits (c ∷ []) ∙ rw (so_far.plain, digit) refl;
      value = digits_value_push 10 so_far.digits c ∙ rw (so_far.value, digit_is c digit) refl;
    }

-- what was read, in the words of the contract
abbrev pub BeginsWithDigits : List ℕ → List ℕ → ℕ → Type 0
BeginsWithDigits text left number = (digits : List ℕ) × (text ≡ digits ++ left) × AreDigits digits × (digits_value 10 digits ≡ number)

pub digits_read : (text left : List ℕ) (number : ℕ) → DigitsSoFar text left number → BeginsWithDigits text left number
digits_read text left number so_far = (so_far.digits, so_far.split, are_digits_so so_far.digits so_far.plain, so_far.value)

-- a sign or none, and digits
abbrev pub BeginsWithNumber : List ℕ → List ℕ → ℤ → Type 0
BeginsWithNumber text left number = (front : List ℕ) × (text ≡ front ++ left) × IsNumber front × (number_value front ≡ number)

some_read : (text digits left : List ℕ) → text ≡ digits ++ left → length left ≢ length text → 0 < length digits
some_read text [] left split other = absurd (other (ap length (sym split)))
some_read text (c ∷ digits) left split other = omega arith

-- digits stand behind no sign
digits_unsigned : (ds : List ℕ) → IsDigits ds → split_sign ds ≡ (false, ds)
digits_unsigned [] h = absurd h
digits_unsigned (b ∷ ds) h =
    let minus : eqb b 45 ≡ false = grind (arith, nat_tests) in
    let plus : eqb b 43 ≡ false = grind (arith, nat_tests) in
    rw (minus, plus) refl

unsigned : (text : List ℕ) (s : Bool × List ℕ) (left : List ℕ) (n : ℕ) (z : ℤ) → s ≡ (false, text) → BeginsWithDigits s.1 left n → length left ≢ length s.1 → z ≡ signed s.0 n →
    BeginsWithNumber text left z
unsigned text s left n z split h other is =
    let some = some_digits h.0 (some_read s.1 h.0 left h.1 other) h.2 in
    let said = number_said h.0 (false, h.0) n z (sym (digits_unsigned h.0 some)) some h.3 (is ∙ ap (λ (t : Bool × List ℕ). signed t.0 n) split) in
    (h.0, ap (λ (t : Bool × List ℕ). t.1) (sym split) ∙ h.1, said.0, said.1)

behind_sign : (b : ℕ) (minus : Bool) (text : List ℕ) (s : Bool × List ℕ) (left : List ℕ) (n : ℕ) (z : ℤ) → ((ds : List ℕ) → split_sign (b ∷ ds) ≡ (minus, ds)) → s ≡ (minus, text) →
    BeginsWithDigits s.1 left n → length left ≢ length s.1 → z ≡ signed s.0 n → BeginsWithNumber (b ∷ text) left z
behind_sign b minus text s left n z splits split h other is =
    let some = some_digits h.0 (some_read s.1 h.0 left h.1 other) h.2 in
    let said = number_said (b ∷ h.0) (minus, h.0) n z (sym (splits h.0)) some h.3 (is ∙ ap (λ (t : Bool × List ℕ). signed t.0 n) split) in
    (b ∷ h.0, ap (λ (t : Bool × List ℕ). b ∷ t.1) (sym split) ∙ ap (λ t. b ∷ t) h.1, said.0, said.1)

pub number_read : (text : List ℕ) (s : Bool × List ℕ) (left : List ℕ) (n : ℕ) (z : ℤ) → s ≡ split_sign text → BeginsWithDigits s.1 left n → length left ≢ length s.1 → z ≡ signed s.0 n →
    BeginsWithNumber text left z
number_read [] s left n z split h other is = unsigned [] s left n z split h other is
number_read (b ∷ text) s left n z split h other is =
    elim (eqb_tells b 45) [
      | inl e ↦ behind_sign b true text s left n z (λ ds. rw e.0 refl) (split ∙ rw e.0 refl) h other is
      | inr e ↦
          elim (eqb_tells b 43) [
            | inl f ↦ behind_sign b false text s left n z (λ ds. rw (e.0, f.0) refl) (split ∙ rw (e.0, f.0) refl) h other is
            | inr f ↦ unsigned (b ∷ text) s left n z (split ∙ rw (e.0, f.0) refl) h other is
          ]
    ]

-- a number has neither a comma nor a tab
byte_keeps : (b : ℕ) → 43 ≤ b → b ≢ 44 → keeps_on b ≡ true
byte_keeps b low other = grind (arith, nat_tests)

digits_keep : (ds : List ℕ) → AreDigits ds → list_all keeps_on ds ≡ true
digits_keep [] h = refl
digits_keep (b ∷ ds) h = both_true (byte_keeps b (omega arith) (omega arith)) (digits_keep ds h.1)

pub number_part : (text front left : List ℕ) → text ≡ front ++ left → IsNumber front → IsPart text front left
number_part text [] left split h = absurd h
number_part text (b ∷ ds) left split (inl h) = (split, omega arith, both_true (byte_keeps b (omega arith) (omega arith)) (digits_keep ds h.1))
number_part text (b ∷ ds) left split (inr (inl h, digits)) = (split, omega arith, both_true (byte_keeps b (omega arith) (omega arith)) (digits_keep ds (digits_parts ds digits).1))
number_part text (b ∷ ds) left split (inr (inr h, digits)) = (split, omega arith, both_true (byte_keeps b (omega arith) (omega arith)) (digits_keep ds (digits_parts ds digits).1))

-- the digits counted so far
pub record CountedDigits (text : List ℕ) (count : ℕ) : Type 0 where
  pub within : count ≤ length text
  pub plain : list_all is_ascii_digit (take count text) ≡ true

pub counted_none : (text : List ℕ) → CountedDigits text 0
counted_none text = record { within = omega arith; plain = refl }

take_next : (text : List ℕ) (i : ℕ) → i < length text → take (suc i) text ≡ take i text ++ get_or text i 0 ∷ []
take_next [] i within = absurd (omega arith)
take_next (b ∷ text) zero within = refl
take_next (b ∷ text) (suc i) within = ap (λ t. b ∷ t) (take_next text i (omega arith))

take_more : (text : List ℕ) (i : ℕ) → i < length text → take (i + 1) text ≡ take i text ++ get_or text i 0 ∷ []
take_more text i within = rw add-one (take_next text i within)

pub counted_more : (text : List ℕ) (count : ℕ) → CountedDigits text count → count < length text → is_ascii_digit (get_or text count 0) ≡ true → CountedDigits text (count + 1)
counted_more text count so_far within digit = record {
  within = omega arith;
  plain = ap (list_all is_ascii_digit) (take_more text count within) ∙ list_all-append is_ascii_digit (take count text) (get_or text count 0 ∷ []) ∙ rw (so_far.plain, digit) refl;
}

pub counted_digits : (text : List ℕ) (count : ℕ) → CountedDigits text count → AreDigits (take count text)
counted_digits text count so_far = are_digits_so (take count text) so_far.plain

-- and the number that they write, where they are few
digit_below : (c : ℕ) → is_ascii_digit c ≡ true → digit_value c < 10
digit_below c digit = let high = (are_digits_so (c ∷ []) (rw digit refl)).0.1 in omega (arith, digit_is c digit, high)

each_digit : (ds : List ℕ) → list_all is_ascii_digit ds ≡ true → AllDigits 10 ds
each_digit [] h = tt
each_digit (c ∷ ds) h = let p = and_parts (is_ascii_digit c) (list_all is_ascii_digit ds) h in (digit_below c p.0, each_digit ds p.1)

pub digits_below : (text : List ℕ) (count most : ℕ) → CountedDigits text count → count ≤ most → digits_value 10 (take count text) < 10 ^ most
digits_below text count most so_far few =
    let low : digits_value 10 (take count text) < 10 ^ count = subst (λ (n : ℕ). digits_value 10 (take count text) < 10 ^ n) (length-take-le count text so_far.within) (digits_value-lt 10 (take count text) (each_digit (take count text) so_far.plain)) in
    let high : 10 ^ count ≤ 10 ^ most = pow-le-pow_right (omega arith) few in
    omega (arith, low, high)

pub record FewDigits (text : List ℕ) (count value : ℕ) : Type 0 where
  pub counted : CountedDigits text count
  pub writes : count ≤ 19 → digits_value 10 (take count text) ≡ value

pub few_none : (text : List ℕ) → FewDigits text 0 0
few_none text = record { counted = counted_none text; writes = λ few. refl }

-- with few digits nothing is lost beyond 64 bits
one_more : (value digit next : ℕ) → value < 10 ^ 18 → digit < 10 → next ≡ (value * 10 % 2 ^ 64 + digit) % 2 ^ 64 → next ≡ value * 10 + digit
one_more value digit next small low is =
    let tens : value * 10 < 2 ^ 64 = omega (arith, small) in
    let whole : value * 10 + digit < 2 ^ 64 = omega (arith, small, low) in
    is ∙ ap (λ n. (n + digit) % 2 ^ 64) (mod-eq_of_lt tens) ∙ mod-eq_of_lt whole

pub few_more : (text : List ℕ) (count value next : ℕ) → FewDigits text count value → count < length text → is_ascii_digit (get_or text count 0) ≡ true →
    next ≡ (value * 10 % 2 ^ 64 + (get_or text count 0 - 48)) % 2 ^ 64 → FewDigits text (count + 1) next
few_more text count value next so_far within digit is = record {
  counted = counted_more text count so_far.counted within digit;
  writes = λ few.
      let before = so_far.writes (omega (arith, few)) in
      let small : value < 10 ^ 18 = subst (λ (n : ℕ). n < 10 ^ 18) before (digits_below text count 18 so_far.counted (omega (arith, few))) in
      let byte = digit_is (get_or text count 0) digit in
      let low : get_or text count 0 - 48 < 10 = subst (λ (n : ℕ). n < 10) byte (digit_below (get_or text count 0) digit) in
      digits_value_more 10 text count within ∙ ap (λ n. n * 10 + digit_value (get_or text count 0)) before ∙ ap (λ d. value * 10 + d) byte
      ∙ sym (one_more value (get_or text count 0 - 48) next small low is);
}

-- digits alone are a number
pub digits_said : (text : List ℕ) (count n : ℕ) → count ≤ length text → 0 < count → AreDigits (take count text) → digits_value 10 (take count text) ≡ n → IsNumber (take count text) × (number_value (take count text) ≡ pos n)
digits_said text count n within some digits value =
    let front = take count text in
    let few = some_digits front (omega (arith, length-take-le count text within)) digits in
    number_said front (false, front) n (pos n) (sym (digits_unsigned front few)) few value refl

pub number_begins : (text left : List ℕ) (count n : ℕ) → count ≤ length text → count ≢ 0 → AreDigits (take count text) → digits_value 10 (take count text) ≡ n → left ≡ drop count text →
    BeginsWithNumber text left (pos n)
number_begins text left count n within some digits value rest =
    let said = digits_said text count n within (omega (arith, some)) digits value in
    (take count text, sym (take-append-drop count text) ∙ ap (λ t. take count text ++ t) (sym rest), said.0, said.1)
