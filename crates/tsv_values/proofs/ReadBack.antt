-- Scalars are read back as they were written.
use Rattle.std.proofs.Common.{◌≡◌, ℕ, zero, suc, ◌+◌, ◌*◌, ◌/◌, ◌%◌, ◌<◌, ◌≤◌, ◌^◌, ℤ, pos, negsuc, Bool, true, false, ◌&&◌, ◌==◌, List, [], ◌∷◌, ◌++◌, length, slice_index, None, Ok, refl, sym, ap, subst, ◌∙◌, arith, eqb, ltb, inl, inr}
use mir.Syntax.{Width}
use mir.Val.{hbits}
use Rattle.std.specs.List.{list_all, position, position_or_len}
use Rattle.std.specs.Fmt.{decimal, signed_decimal}
use Rattle.std.specs.Str.Parse.{AllDigits, digits_value}
use Rattle.std.proofs.lemmas.Bool.{and_parts, cases_lt, eqb-true}
use Rattle.std.proofs.lemmas.Bool.Decides.{nat_tests}
use Rattle.std.proofs.lemmas.Fmt.{decimal_is_IsNumeral}
use Rattle.std.proofs.lemmas.Str.Parse.{tells_digits}
use Rattle.hex.specs.Hex.{encode_lower, encode_with, lower_digits}
use Rattle.hex.proofs.HexLemmas.{length-encode_with}
use Rattle.agg_terms.specs.Chains as terms
use Rattle.agg_terms.specs.Values as family
use Rattle.agg_terms.specs.Fitting.{fits_bits, fits_value, fits_width, is_nil}
use Rattle.agg_terms.proofs.Fitting as fitting
use Rattle.value_types.specs.declared.value.Value.{Value}
use Rattle.value_types.specs.Folds.{value_of}
use Rattle.tsv_text.specs.Escapes.{escaped, escaped_byte, hex_value, is_escaped, letter_of}
use Rattle.tsv_text.specs.Escapes.{IsUnescaped}
use Rattle.field_texts.specs.Syntax.{AreDigits, IsDigits, IsNumber}
use Rattle.scalar_texts.specs.Answer.{Agrees, IsScalar, IsScalarAnswer, IsNumericAnswer, is_null_text, state_answer}
use Rattle.scalar_texts.specs.Hex.{hex_bytes, hex_fault, is_lower_hex, is_not_lower_hex, odd_at}
use Rattle.scalar_texts.specs.Numbers.{number_value, split_sign}
use Rattle.tsv_values.specs.ReadBack.{EachState, HasWidth, IsReadBack}
use Rattle.scalar_texts.specs.States.{ReadsStates}
use Rattle.tsv_values.specs.Writing.{WritesStates, field_text}
use Rattle.scalar_texts.proofs.Digits.{some_digits}

-- ---- what isn't `\N`

pub not_null : (b : ℕ) (t : List ℕ) → eqb b 92 ≡ false → is_null_text (b ∷ t) ≡ false
not_null b [] e = refl
not_null b (c ∷ []) e = rw e refl
not_null b (c ∷ d ∷ t) e = refl

not_null_second : (b c : ℕ) (t : List ℕ) → eqb c 78 ≡ false → is_null_text (b ∷ c ∷ t) ≡ false
not_null_second b c [] e = right_false (eqb b 92) (eqb c 78) e
  where
    right_false : (a b : Bool) → b ≡ false → (a && b) ≡ false
    right_false true b e = e
    right_false false b e = refl
not_null_second b c (d ∷ t) e = refl

-- ---- numbers

are_digits : (ds : List ℕ) → AllDigits 10 ds → AreDigits ds
are_digits [] h = tt
are_digits (c ∷ cs) h = let p = tells_digits.parts c cs h in (p.0, are_digits cs p.1)

decimal_back : (n : ℕ) → n < 2 ^ 64 → IsDigits (decimal n) × (digits_value 10 (decimal n) ≡ n)
decimal_back n lt = let d = decimal_is_IsNumeral n lt in (some_digits (decimal n) d.0.0 (are_digits (decimal n) d.0.1), d.1)

not_eq : (a b : ℕ) → b < a → eqb a b ≡ false
not_eq a b lt = grind (arith, nat_tests)

unsigned_text : (ds : List ℕ) → IsDigits ds → IsNumber ds × (split_sign ds ≡ (let s : Bool × List ℕ = (false, ds) in s)) × (is_null_text ds ≡ false)
unsigned_text [] d = absurd d
unsigned_text (c ∷ cs) d =
    let m : eqb c 45 ≡ false = not_eq c 45 (omega (arith, d.0.0)) in
    let p : eqb c 43 ≡ false = not_eq c 43 (omega (arith, d.0.0)) in
    let n : eqb c 92 ≡ false = grind (arith, nat_tests, d.0.1) in
    (inl d, rw (m, p) refl, not_null c cs n)

-- a number of 64 bits, with its sign
pub record NumberBack (z : ℤ) : Type 0 where
  pub number : IsNumber (signed_decimal z)
  pub value : number_value (signed_decimal z) ≡ z
  pub filled : is_null_text (signed_decimal z) ≡ false

positive_back : (n : ℕ) → n < 2 ^ 64 → NumberBack (pos n)
positive_back n lt =
    let d = decimal_back n lt in
    let u = unsigned_text (decimal n) d.0 in
    record { number = u.0; value = rw (u.1, d.1) refl; filled = u.2 }

negative_back : (n : ℕ) → suc n < 2 ^ 64 → NumberBack (negsuc n)
negative_back n lt =
    let d = decimal_back (suc n) lt in
    record { number = inr (inr refl, d.0); value = rw d.1 refl; filled = not_null 45 (decimal (suc n)) refl }

-- ---- strings

letter_not_n : (b : ℕ) → is_escaped b ≡ true → eqb (letter_of b) 78 ≡ false
letter_not_n b e = grind (arith, nat_tests, e)

pub slash_escaped : (b : ℕ) → is_escaped b ≡ false → eqb b 92 ≡ false
slash_escaped b e = grind (arith, nat_tests, e)

string_filled : (bytes : List ℕ) → is_null_text (escaped bytes) ≡ false
string_filled [] = refl
string_filled (b ∷ bytes) = by_test (is_escaped b) refl
  where
    by_test : (t : Bool) → is_escaped b ≡ t → is_null_text (escaped_byte b ++ escaped bytes) ≡ false
    by_test true e = rw e (not_null_second 92 (letter_of b) (escaped bytes) (letter_not_n b e))
    by_test false e = rw e (not_null b (escaped bytes) (slash_escaped b e))

-- ---- states

abbrev digit_back : ℕ → Bool
digit_back d = is_lower_hex (slice_index lower_digits d) && hex_value (slice_index lower_digits d) == d

abbrev all_back : ℕ → Bool
all_back zero = true
all_back (suc n) = digit_back n && all_back n

back_at : (n k : ℕ) → all_back n ≡ true → k < n → digit_back k ≡ true
back_at zero k h lt = absurd (omega arith)
back_at (suc n) k h lt =
    let parts = and_parts (digit_back n) (all_back n) h in
    elim (cases_lt k n) [
      | inl below ↦ back_at n k parts.1 below
      | inr top ↦ (let e : k ≡ n = omega arith in rw e parts.0)
    ]

digit_parts : (k : ℕ) → k < 16 → (is_lower_hex (slice_index lower_digits k) ≡ true) × (hex_value (slice_index lower_digits k) ≡ k)
digit_parts k lt =
    let p = and_parts (is_lower_hex (slice_index lower_digits k)) (hex_value (slice_index lower_digits k) == k) (back_at 16 k refl lt) in
    (p.0, eqb-true _ _ p.1)

abbrev pub Bytes : List ℕ → Type 0
Bytes [] = Unit {0}
Bytes (b ∷ bs) = (b < 256) × Bytes bs

pub as_bytes : (bs : List ℕ) → ((i : ℕ) → slice_index bs i < 256) → Bytes bs
as_bytes [] h = tt
as_bytes (b ∷ bs) h = (h 0, as_bytes bs (λ i. h (suc i)))

pub hex_back : (bs : List ℕ) → Bytes bs → (hex_bytes (encode_lower bs) ≡ bs) × (list_all is_lower_hex (encode_lower bs) ≡ true)
unfolding encode_with
hex_back [] h = (refl, refl)
hex_back (b ∷ bs) h =
    let more = hex_back bs h.1 in
    let high = digit_parts (b / 16) (omega (arith, h.0)) in
    let low = digit_parts (b % 16) (omega arith) in
    let byte : b / 16 * 16 + b % 16 ≡ b = omega arith in
    (rw (high.1, low.1, byte, more.0) refl, rw (high.0, low.0) more.1)

lower_length : (xs : List ℕ) → list_all is_lower_hex xs ≡ true → position_or_len is_not_lower_hex xs ≡ length xs
lower_length [] h = refl
lower_length (x ∷ xs) h = let p = and_parts (is_lower_hex x) (list_all is_lower_hex xs) h in rw (p.0, lower_length xs p.1) (omega arith)

no_position : (xs : List ℕ) → list_all is_lower_hex xs ≡ true → position is_not_lower_hex xs ≡ None
no_position xs h = rw (lower_length xs h, same_not_below (length xs)) refl
  where
    same_not_below : (n : ℕ) → ltb n n ≡ false
    same_not_below n = grind (arith, nat_tests)

even_length : (n : ℕ) → odd_at (2 * n) ≡ None
even_length n = let e : (2 * n) % 2 ≡ 0 = omega arith in rw e refl

pub hex_filled : (bs : List ℕ) → Bytes bs → is_null_text (encode_lower bs) ≡ false
unfolding encode_with
hex_filled [] h = refl
hex_filled (b ∷ bs) h =
    let high = digit_parts (b / 16) (omega (arith, h.0)) in
    not_null (slice_index lower_digits (b / 16)) (slice_index lower_digits (b % 16) ∷ encode_with lower_digits bs) (lower_not_slash (slice_index lower_digits (b / 16)) high.0)
  where
    lower_not_slash : (c : ℕ) → is_lower_hex c ≡ true → eqb c 92 ≡ false
    lower_not_slash c e = grind (arith, nat_tests, e)

pub hex_well : (bs : List ℕ) → Bytes bs → hex_fault (encode_lower bs) ≡ None
hex_well bs h = rw (no_position (encode_lower bs) (hex_back bs h).1, length-encode_with lower_digits bs) (even_length (length bs))

-- ---- every scalar

numeric : (fits : ℤ → Bool) (z : ℤ) (value : Value) → NumberBack z → fits z ≡ true → value_of value ≡ family.Num z
    → (is_null_text (signed_decimal z) ≡ false) × IsNumericAnswer fits (signed_decimal z) (Ok value)
numeric fits z value back h e = (back.filled, (back.number, subst (λ y. fits y ≡ true) (sym back.value) h, e ∙ ap family.Num (sym back.value)))

pub whole_back : (n : ℕ) (z : ℤ) → 2 ^ n ≤ 2 ^ 64 → fits_bits n z ≡ true → NumberBack z
whole_back n z le h = let p = (fitting.bits n z).0 h in subst NumberBack (sym p.1) (positive_back p.0 (omega (arith, p.2, le)))

pub signed_back : (w : Width) (z : ℤ) → 2 ^ hbits w ≤ 2 ^ 63 → fits_width w z ≡ true → NumberBack z
signed_back w (pos k) le h = let s : k < 2 ^ hbits w = ((fitting.width w (pos k)).0 h).sfits in positive_back k (omega (arith, s, le))
signed_back w (negsuc k) le h = let s : k < 2 ^ hbits w = ((fitting.width w (negsuc k)).0 h).sfits in negative_back k (omega (arith, s, le))

module _ (reads : ReadsStates) (writes : WritesStates) (round_trip : (bytes : List ℕ) → IsUnescaped (escaped bytes) (Ok bytes)) (value : Value) where
  abbrev Back : terms.Ty → family.Value → Type 0
  Back t v = (is_null_text (field_text writes t v) ≡ false) × IsScalarAnswer reads t (field_text writes t v) (Ok value)

  cell_back : (t : terms.Ty) (tree : family.Tree) → IsReadBack reads writes t tree → value_of value ≡ family.Cell tree
      → (is_null_text (encode_lower (writes t tree)) ≡ false) × Agrees (state_answer reads t (encode_lower (writes t tree))) (Ok value)
  cell_back t tree state e =
      let bytes = as_bytes (writes t tree) state.bytes in
      (hex_filled (writes t tree) bytes, rw (hex_well (writes t tree) bytes, (hex_back (writes t tree) bytes).0, state.same) (ap Ok (sym e)))

  pub back : (t : terms.Ty) → IsScalar t → HasWidth t → (v : family.Value) → is_nil v ≡ false → value_of value ≡ v → fits_value t v ≡ true → EachState (IsReadBack reads writes) t v → Back t v
  back (terms.Whole n) s w (family.Num z) filled e h states = numeric (fits_bits n) z value (whole_back n z w h) h e
  back (terms.Whole n) s w v filled e h states = absurd cc
  back (terms.Signed w) s le (family.Num z) filled e h states = numeric (fits_width w) z value (signed_back w z le h) h e
  back (terms.Signed w) s le v filled e h states = absurd cc
  back terms.Str s w (family.Bytes bytes) filled e h states = (string_filled bytes, (bytes, e, round_trip bytes))
  back terms.Str s w v filled e h states = absurd cc
  back (terms.StateOf c ts) s w (family.Cell tree) filled e h states = cell_back (terms.StateOf c ts) tree states e
  back (terms.StateOf c ts) s w v filled e h states = absurd cc
  back (terms.Nullable t) s w family.Nil filled e h states = absurd cc
  back (terms.Nullable t) s w v filled e h states = back t s w v filled e h states
  back (terms.Arr t) s w v filled e h states = absurd s
  back (terms.MapTy k t) s w v filled e h states = absurd s
