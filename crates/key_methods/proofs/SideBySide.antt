-- Numbers side by side.
use Rattle.std.proofs.Common.{◌≡◌, ℕ, zero, suc, ◌+◌, ◌-◌, ◌*◌, ◌/◌, ◌%◌, ◌^◌, ◌<◌, ◌≤◌, true, List, [], ◌∷◌, ◌++◌, length, map, take, drop, get_or, append_assoc, refl, sym, ap, ap₂, subst, ◌∙◌, arith, add-one, nat_le}
use Rattle.std.specs.Int.{byte_len, bytes_high_first, cast_unsigned}
use Rattle.std.specs.List.{list_all}
use Rattle.std.proofs.Math.Nat.{mod-eq_of_lt, pow-le-pow_right}
use Rattle.std.proofs.Math.Seq.{drop-cons}
use Rattle.std.proofs.Math.Facts.{Fits-of_z}
use Rattle.std.proofs.lemmas.Nat.{pow-add, mul-add-lt}
use Rattle.std.proofs.lemmas.List.{length-append}
use Rattle.std.proofs.lemmas.List.Sums.{sum_by-cons}
use Rattle.std.proofs.lemmas.Bool.{and_parts}
use Rattle.agg_terms.specs.Chains as terms
use Rattle.agg_terms.specs.Lists.{Each}
use Rattle.agg_terms.specs.Trees.{IsValue}
use Rattle.agg_terms.specs.Values.{Value}
use Rattle.agg_meaning.specs.Feeds.{AreValues}
use Rattle.value_types.specs.Folds.{ty_of, value_of}
use Rattle.value_types.specs.declared.ty.Ty.{Ty}
use Rattle.value_types.specs.declared.value.Value as rust
use Rattle.key_methods.specs.Figures.{worth, worth_behind}
use Rattle.key_methods.specs.KeyBytes.{value_bytes, values_bytes, word_of}
use Rattle.key_methods.specs.Kinds.{AreKeyTypes, fit_in, is_plain_number, total_width, width_of}
use Rattle.key_methods.proofs.Columns.{IsColumn, are_columns}
use Rattle.key_methods.proofs.Figures.{last_of_16, last_of_8, length-bytes, power_bits, width_bits, worth-append, worth-bytes}

-- ---- a number behind others
module _ (n m j k : ℕ) (room : j + k ≤ 16) (before : n < 256 ^ j) (behind : m < 256 ^ k) where
  pub below : n * 256 ^ k + m < 256 ^ (j + k)
  below = omega (arith, mul-add-lt n (256 ^ k) m (256 ^ j) before behind, pow-add 256 j k)

  in_128 : n * 256 ^ k + m < 2 ^ 128
  in_128 = let most = pow-le-pow_right {n = 256} (omega arith) {i = j + k} {j = 16} room in omega (arith, below, most)

  pub shifted : n * 2 ^ (8 * k) % 340282366920938463463374607431768211456 ≡ n * 256 ^ k
  shifted = ap (λ p. n * p % 2 ^ 128) (sym (power_bits k)) ∙ mod-eq_of_lt (omega (arith, in_128))

  pub shifted_sum : n * 2 ^ (8 * k) % 340282366920938463463374607431768211456 + m ≡ n * 256 ^ k + m
  shifted_sum = ap (λ p. p + m) shifted

  pub shifted_fits : n * 2 ^ (8 * k) % 340282366920938463463374607431768211456 + m < 2 ^ 128
  shifted_fits = subst (λ p. p < 2 ^ 128) (sym shifted_sum) in_128

  pub shifted_below : n * 2 ^ (8 * k) % 340282366920938463463374607431768211456 + m < 256 ^ (j + k)
  shifted_below = subst (λ p. p < 256 ^ (j + k)) (sym shifted_sum) below

-- ---- the bytes of one number
take_all : (xs : List ℕ) (i : ℕ) → length xs ≡ i → take i xs ≡ xs
take_all [] zero e = refl
take_all [] (suc i) e = refl
take_all (x ∷ xs) zero e = absurd (omega (arith, e))
take_all (x ∷ xs) (suc i) e = ap (λ ys. x ∷ ys) (take_all xs i (omega (arith, e)))

pub piece : (k n : ℕ) (bytes : List ℕ) → k ≤ 8 → bytes ≡ bytes_high_first 8 n → take (8 - (8 - k)) (drop (8 - k) bytes) ≡ bytes_high_first k n
piece k n bytes h e =
    let last : drop (8 - k) bytes ≡ bytes_high_first k n = ap (drop (8 - k)) e ∙ last_of_8 k n h in
    ap₂ take (omega (arith, h)) last ∙ take_all (bytes_high_first k n) k (length-bytes k n)

pub wide_piece : (k n : ℕ) (bytes : List ℕ) → k ≤ 16 → bytes ≡ bytes_high_first 16 n → take (16 - (16 - k)) (drop (16 - k) bytes) ≡ bytes_high_first k n
wide_piece k n bytes h e =
    let last : drop (16 - k) bytes ≡ bytes_high_first k n = ap (drop (16 - k)) e ∙ last_of_16 k n h in
    ap₂ take (omega (arith, h)) last ∙ take_all (bytes_high_first k n) k (length-bytes k n)

pub number_bytes : (t : terms.Ty) (v : Value) → is_plain_number t ≡ true → value_bytes t v ≡ bytes_high_first (width_of t) (word_of t v)
number_bytes (terms.Whole n) v e = refl
number_bytes (terms.Signed w) v e = refl
number_bytes terms.Str v e = absurd cc
number_bytes (terms.Arr t) v e = absurd cc
number_bytes (terms.MapTy k t) v e = absurd cc
number_bytes (terms.Nullable t) v e = absurd cc
number_bytes (terms.StateOf c ts) v e = absurd cc

pub word_below : (t : terms.Ty) (v : Value) → IsColumn t → IsValue t v → is_plain_number t ≡ true → word_of t v < 256 ^ width_of t
word_below (terms.Whole n) v c p e =
    subst (λ u. word_of (terms.Whole n) u < 256 ^ (n / 8)) (sym p.1) (subst (λ m. p.0 < m) (ap (λ m. 2 ^ m) c.0 ∙ sym (power_bits (n / 8))) p.2)
word_below (terms.Signed w) v c p e =
    subst (λ u. word_of (terms.Signed w) u < 256 ^ byte_len w) (sym p.1) (subst (λ m. cast_unsigned w p.0 < m) (sym (width_bits w)) (Fits-of_z p.2).fits)
word_below terms.Str v c p e = absurd cc
word_below (terms.Arr t) v c p e = absurd c
word_below (terms.MapTy k t) v c p e = absurd c
word_below (terms.Nullable t) v c p e = absurd cc
word_below (terms.StateOf k ts) v c p e = absurd c

-- ---- what is packed so far, and what is left
pub record Packing (ts : List terms.Ty) (vs : List Value) (word width most : ℕ) (all : List ℕ) : Type 0 where
  pub word_is : worth_behind word (values_bytes ts vs) ≡ worth all
  pub width_is : width + length (values_bytes ts vs) ≡ length all
  pub plain : list_all is_plain_number ts ≡ true
  pub room : width + total_width ts ≤ most
  pub limit : most ≤ 16
  pub columns : Each IsColumn ts
  pub fits : AreValues ts vs
  pub below : word < 256 ^ width

module _ (t : terms.Ty) (ts : List terms.Ty) (v : Value) (vs : List Value) (word width most : ℕ) (all : List ℕ) (p : Packing (t ∷ ts) (v ∷ vs) word width most all) where
  private-plain : is_plain_number t ≡ true
  private-plain = (and_parts (is_plain_number t) (list_all is_plain_number ts) p.plain).0

  pub step_room : width + width_of t ≤ 16
  step_room = omega (arith, p.room, p.limit, sum_by-cons width_of t ts)

  pub step_word : word_of t v < 256 ^ width_of t
  step_word = word_below t v p.columns.0 p.fits.0 private-plain

  split : values_bytes (t ∷ ts) (v ∷ vs) ≡ bytes_high_first (width_of t) (word_of t v) ++ values_bytes ts vs
  split = ap (λ bs. bs ++ values_bytes ts vs) (number_bytes t v private-plain)

  pub step : Packing ts vs (word * 256 ^ width_of t + word_of t v) (width + width_of t) most all
  step = record {
    word_is =
        ap (λ n. worth_behind (word * 256 ^ width_of t + n) (values_bytes ts vs)) (sym (mod-eq_of_lt step_word))
        ∙ ap (λ n. worth_behind n (values_bytes ts vs)) (sym (worth-bytes (width_of t) (word_of t v) word))
        ∙ sym (worth-append (bytes_high_first (width_of t) (word_of t v)) (values_bytes ts vs) word)
        ∙ sym (ap (worth_behind word) split)
        ∙ p.word_is;
    width_is = omega (arith, p.width_is, ap length split, length-append (bytes_high_first (width_of t) (word_of t v)) (values_bytes ts vs), length-bytes (width_of t) (word_of t v));
    plain = (and_parts (is_plain_number t) (list_all is_plain_number ts) p.plain).1;
    room = omega (arith, p.room, sum_by-cons width_of t ts);
    limit = p.limit;
    columns = p.columns.1;
    fits = p.fits.1;
    below = below word (word_of t v) width (width_of t) step_room p.below step_word;
  }

-- no value without a type, no type without a value
pub as_many : (ts : List Ty) (vs : List rust.Value) → AreValues (map ty_of ts) (map value_of vs) → length ts ≡ length vs
as_many [] [] h = refl
as_many [] (v ∷ vs) h = absurd h
as_many (t ∷ ts) [] h = absurd h
as_many (t ∷ ts) (v ∷ vs) h = ap suc (as_many ts vs h.1)

pub start : (ts : List Ty) (vs : List rust.Value) → AreKeyTypes ts → fit_in 16 (map ty_of ts) ≡ true → AreValues (map ty_of ts) (map value_of vs)
    → Packing (map ty_of ts) (map value_of vs) 0 0 (total_width (map ty_of ts)) (values_bytes (map ty_of ts) (map value_of vs))
start ts vs types plain fits =
    let parts = and_parts (list_all is_plain_number (map ty_of ts)) (nat_le (total_width (map ty_of ts)) 16) plain in
    record {
      word_is = refl;
      width_is = omega arith;
      plain = parts.0;
      room = omega arith;
      limit = let l = parts.1 in grind arith;
      columns = are_columns ts types;
      fits = fits;
      below = omega arith;
    }

-- at a place of the code's lists
module _ (ts : List Ty) (vs : List rust.Value) (i : ℕ) (t : Ty) (v : rust.Value) (hi : i < length ts) (fits : AreValues (map ty_of ts) (map value_of vs))
    (type_is : t ≡ get_or ts i t) (value_is : v ≡ get_or vs i v) where
  hv : i < length vs
  hv = let e = as_many ts vs fits in omega (arith, hi, e)

  types_at : drop i ts ≡ t ∷ drop (i + 1) ts
  types_at = drop-cons ts i t hi ∙ ap₂ ◌∷◌ (sym type_is) (ap (λ j. drop j ts) (sym (add-one i)))

  values_at : drop i vs ≡ v ∷ drop (i + 1) vs
  values_at = drop-cons vs i v hv ∙ ap₂ ◌∷◌ (sym value_is) (ap (λ j. drop j vs) (sym (add-one i)))

  pub here : (P : List Ty → List rust.Value → Type 0) → P (drop i ts) (drop i vs) → P (t ∷ drop (i + 1) ts) (v ∷ drop (i + 1) vs)
  here P p = subst (λ us. P us (v ∷ drop (i + 1) vs)) types_at (subst (λ ws. P (drop i ts) ws) values_at p)

-- the state after a number more
pub next : (t : terms.Ty) (ts : List terms.Ty) (v : Value) (vs : List Value) (word width most : ℕ) (all : List ℕ) (w n m k : ℕ) → Packing (t ∷ ts) (v ∷ vs) word width most all
    → w ≡ word * 256 ^ k + m → n ≡ width + k → m ≡ word_of t v → k ≡ width_of t → Packing ts vs w n most all
next t ts v vs word width most all w n m k p ew en em ek =
    subst (λ x. Packing ts vs x n most all) (sym (ew ∙ ap₂ (λ a b. word * 256 ^ b + a) em ek))
    (subst (λ x. Packing ts vs (word * 256 ^ width_of t + word_of t v) x most all) (sym (en ∙ ap (λ b. width + b) ek)) (step t ts v vs word width most all p))

-- ---- what is written so far, and what is left
pub record Writing (ts : List Ty) (vs : List rust.Value) (out all : List ℕ) : Type 0 where
  pub bytes : out ++ values_bytes (map ty_of ts) (map value_of vs) ≡ all
  pub types : AreKeyTypes ts
  pub fits : AreValues (map ty_of ts) (map value_of vs)

pub written_on : (t : Ty) (ts : List Ty) (v : rust.Value) (vs : List rust.Value) (out new all : List ℕ) → Writing (t ∷ ts) (v ∷ vs) out all
    → new ≡ out ++ value_bytes (ty_of t) (value_of v) → Writing ts vs new all
written_on t ts v vs out new all w e = record {
  bytes = ap (λ o. o ++ values_bytes (map ty_of ts) (map value_of vs)) e
      ∙ append_assoc out (value_bytes (ty_of t) (value_of v)) (values_bytes (map ty_of ts) (map value_of vs)) ∙ w.bytes;
  types = w.types.1;
  fits = w.fits.1;
}

-- numbers of at most 8 bytes have 64 bits
pub in_64 : (ts : List terms.Ty) (word width : ℕ) → fit_in 8 ts ≡ true → word < 256 ^ width → width ≤ total_width ts → word < 2 ^ 64
in_64 ts word width fits below most =
    let total = (and_parts (list_all is_plain_number ts) (nat_le (total_width ts) 8) fits).1 in
    let at_most : total_width ts ≤ 8 = grind arith in
    let eight = pow-le-pow_right {n = 256} (omega arith) {i = width} {j = 8} (omega (arith, most, at_most)) in
    omega (arith, below, eight)
