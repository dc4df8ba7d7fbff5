-- Values are read as they are spelled.
use Rattle.std.proofs.Common.{◌≡◌, ◌⊎◌, ℕ, zero, suc, ◌+◌, ◌*◌, ◌/◌, ◌^◌, ◌<◌, ℤ, pos, true, List, [], ◌∷◌, ◌++◌, length, Option, Some, None, Ok, refl, sym, ap, subst, ◌∙◌, arith, inl, inr}
use Rattle.std.specs.Prelude.{FitsSigned}
use Rattle.std.specs.Int.{byte_len, cast_signed, cast_unsigned}
use Rattle.std.proofs.lemmas.Int.{to_z-of_z}
use Rattle.std.proofs.lemmas.Nat.{pow-add}
use Rattle.std.proofs.Math.Nat.{pow-suc}
use Rattle.std.proofs.Math.Facts.{sfits_to_z, Fits-of_lt, Fits-of_z}
use mir.Syntax.{Width, w8, w16, w32, w64, w128}
use mir.Val.{bits}
use Rattle.agg_meaning.specs.Feeds.{IfHere}
use Rattle.agg_meaning.specs.Functions.{number}
use Rattle.agg_terms.proofs.Lists.{values_back, entries_back}
use Rattle.agg_terms.specs.Chains.{Ty, Whole, Signed, Str, Arr, MapTy, Nullable, StateOf}
use Rattle.agg_terms.specs.Lists.{Each}
use Rattle.agg_terms.specs.Types.{bare}
use Rattle.agg_terms.specs.Values.{Value, Num, Bytes, Nil, Items, Pairs, Cell, list_value, map_value}
use Rattle.state_texts.specs.Figures.{high, low}
use Rattle.state_texts.proofs.Figures.{low_pos, low_signed}
use Rattle.state_texts.specs.Spelled.{HasValueText, HasRowText, IsBase, IsSpelledType, AreSpelledTypes}
use Rattle.state_texts.specs.Texts.{list_text, bytes_text, flag_text, bytes_of, items_of, pairs_of, not_nil, value_text, row_text}
use Rattle.state_codec.specs.Reading.{number_at, string_at, both_at, flag_at, list_at, any_length, or_nil, value_at, row_at}
use Rattle.state_codec.proofs.Exact.{IsExact, Takes, takes_none, ok_is, exact_as, exact_text, exact_made, exact_number, exact_string, exact_both, exact_flag, exact_list, AllAfter}
use Rattle.state_codec.proofs.Kept.{each_to, each_from}

-- ---- widths

pub power_bits : (k : ℕ) → 256 ^ k ≡ 2 ^ (8 * k)
power_bits zero = refl
power_bits (suc k) = omega (arith, pow-suc 256 k, power_bits k, ap (λ i. 2 ^ i) (eight k), pow-add 2 8 (8 * k))
  where
    eight : (k : ℕ) → 8 * suc k ≡ 8 + 8 * k
    eight k = omega arith

pub width_bits : (w : Width) → 256 ^ byte_len w ≡ 2 ^ bits w
width_bits w8 = refl
width_bits w16 = refl
width_bits w32 = refl
width_bits w64 = refl
width_bits w128 = refl

pub signed_fits : (w : Width) (n : ℕ) → n < 2 ^ bits w → FitsSigned w (cast_signed w n)
signed_fits w n l = sfits_to_z (Fits-of_lt l)

pub unsigned_fits : (w : Width) (z : ℤ) → FitsSigned w z → cast_unsigned w z < 2 ^ bits w
unsigned_fits w z f = (Fits-of_z f).fits

-- ---- values

never_null : (t : Ty) → IsBase t → HasValueText t Nil → ⊥
never_null (Whole n) b k = absurd cc
never_null (Signed w) b k = absurd cc
never_null Str b k = absurd cc
never_null (Arr t) b k = b
never_null (MapTy j t) b k = b
never_null (Nullable t) b k = b
never_null (StateOf c ts) b k = b

not_nil_some : (t : Ty) (v : Value) → IsBase t → HasValueText t v → not_nil v ≡ Some v
not_nil_some t (Num n) b k = refl
not_nil_some t (Bytes s) b k = refl
not_nil_some t Nil b k = absurd (never_null t b k)
not_nil_some t (Items vs) b k = refl
not_nil_some t (Pairs es) b k = refl
not_nil_some t (Cell c) b k = refl

nil_back : (t : Ty) → IsBase t → (o : Option Value) → IfHere (HasValueText t) o → not_nil (or_nil o) ≡ o
nil_back t b None k = refl
nil_back t b (Some v) k = not_nil_some t v b k

nil_to : (t : Ty) (v : Value) → ((o : Option Value) × (v ≡ or_nil o) × IfHere (HasValueText t) o) → (v ≡ Nil) ⊎ HasValueText t v
nil_to t v (None, e, k) = inl e
nil_to t v (Some w, e, k) = inr (subst (HasValueText t) (sym e) k)

nil_from : (t : Ty) (v : Value) → (v ≡ Nil) ⊎ HasValueText t v → (o : Option Value) × (v ≡ or_nil o) × IfHere (HasValueText t) o
nil_from t v (inl e) = (None, e, tt)
nil_from t v (inr k) = (Some v, refl, k)

pub exact_value : (whole : ℕ) (t : Ty) → IsSpelledType t → IsExact (value_at whole t) (value_text t) (HasValueText t)
exact_value whole (Whole n) s =
    exact_as (value_at whole (Whole n)) (value_text (Whole n)) (λ v. (k : ℕ) × (v ≡ Num (pos k)) × (k < 256 ^ (n / 8))) (HasValueText (Whole n))
    (λ v p. (p.0, p.1, subst (λ m. p.0 < m) (power_bits (n / 8) ∙ ap (λ m. 2 ^ m) (sym s.0)) p.2))
    (λ v p. (p.0, p.1, subst (λ m. p.0 < m) (ap (λ m. 2 ^ m) s.0 ∙ sym (power_bits (n / 8))) p.2))
    (exact_made (λ k. Num (pos k)) (λ v. low (n / 8) (number v)) (number_at (n / 8)) (high (n / 8)) (λ k. k < 256 ^ (n / 8)) (λ k l. low_pos (n / 8) k l) (exact_number (n / 8)))
exact_value whole (Signed w) s =
    exact_as (value_at whole (Signed w)) (value_text (Signed w)) (λ v. (k : ℕ) × (v ≡ Num (cast_signed w k)) × (k < 256 ^ byte_len w)) (HasValueText (Signed w))
    (λ v p. (cast_signed w p.0, p.1, signed_fits w p.0 (subst (λ m. p.0 < m) (width_bits w) p.2)))
    (λ v p. (cast_unsigned w p.0, p.1 ∙ ap Num (sym (to_z-of_z w p.0 p.2)), subst (λ m. cast_unsigned w p.0 < m) (sym (width_bits w)) (unsigned_fits w p.0 p.2)))
    (exact_made (λ k. Num (cast_signed w k)) (λ v. low (byte_len w) (number v)) (number_at (byte_len w)) (high (byte_len w)) (λ k. k < 256 ^ byte_len w)
    (λ k l. low_signed w k (subst (λ m. k < m) (width_bits w) l)) (exact_number (byte_len w)))
exact_value whole Str s =
    exact_as (value_at whole Str) (value_text Str) (λ v. (b : List ℕ) × (v ≡ Bytes b) × (Each (λ c. c < 256) b × (length b < 256 ^ 8))) (HasValueText Str)
    (λ v p. (p.0, p.1, p.2.0, p.2.1))
    (λ v p. (p.0, p.1, (p.2, p.3)))
    (exact_made Bytes bytes_of string_at bytes_text (λ b. Each (λ c. c < 256) b × (length b < 256 ^ 8)) (λ b k. refl) exact_string)
exact_value whole (Arr t) s =
    exact_as (value_at whole (Arr t)) (value_text (Arr t)) (λ v. (vs : List Value) × (v ≡ list_value vs) × ((length vs < 256 ^ 8) × (any_length (length vs) ≡ true) × AllAfter (λ e. HasValueText t) [] vs)) (HasValueText (Arr t))
    (λ v p. (p.0, p.1, each_to (HasValueText t) [] p.0 p.2.2, p.2.0))
    (λ v p. (p.0, p.1, (p.3, refl, each_from (HasValueText t) [] p.0 p.2)))
    (exact_made list_value items_of (list_at whole any_length (λ e. value_at whole t)) (list_text (value_text t)) (λ vs. (length vs < 256 ^ 8) × (any_length (length vs) ≡ true) × AllAfter (λ e. HasValueText t) [] vs)
    (λ vs k. values_back vs) (exact_list (λ e. value_at whole t) (value_text t) (λ e. HasValueText t) (λ e. exact_value whole t s) whole any_length))
exact_value whole (MapTy j t) s =
    exact_as (value_at whole (MapTy j t)) (value_text (MapTy j t)) (λ v. (es : List (Value × Value)) × (v ≡ map_value es) × ((length es < 256 ^ 8) × (any_length (length es) ≡ true) × AllAfter (λ e. entry) [] es)) (HasValueText (MapTy j t))
    (λ v p. (p.0, p.1, each_to entry [] p.0 p.2.2, p.2.0))
    (λ v p. (p.0, p.1, (p.3, refl, each_from entry [] p.0 p.2)))
    (exact_made map_value pairs_of (list_at whole any_length (λ e. both_at (value_at whole j) (value_at whole t))) (list_text (λ e. value_text j e.0 ++ value_text t e.1)) (λ es. (length es < 256 ^ 8) × (any_length (length es) ≡ true) × AllAfter (λ e. entry) [] es)
    (λ es k. entries_back es)
    (exact_list (λ e. both_at (value_at whole j) (value_at whole t)) (λ e. value_text j e.0 ++ value_text t e.1) (λ e. entry)
    (λ e. exact_both (value_at whole j) (value_text j) (HasValueText j) (value_at whole t) (value_text t) (HasValueText t) (exact_value whole j s.0) (exact_value whole t s.1)) whole any_length))
  where
    entry : Value × Value → Type 0
    entry e = HasValueText j e.0 × HasValueText t e.1
exact_value whole (Nullable t) s =
    exact_as (value_at whole (Nullable t)) (value_text (Nullable t)) (λ v. (o : Option Value) × (v ≡ or_nil o) × IfHere (HasValueText t) o) (HasValueText (Nullable t))
    (nil_to t) (nil_from t)
    (exact_made or_nil not_nil (flag_at whole (value_at whole t)) (λ o. flag_text (value_text t) o) (IfHere (HasValueText t)) (nil_back t s.0) (exact_flag whole (value_at whole t) (value_text t) (HasValueText t) (exact_value whole t s.1)))
exact_value whole (StateOf c ts) s = record { takes = λ bytes y fits e. absurd cc; again = λ x rest k. absurd k }

-- ---- rows

abbrev pair_row : Value × List Value → List Value
pair_row p = p.0 ∷ p.1

abbrev head_of : List Value → Value
head_of [] = Nil
head_of (v ∷ vs) = v

abbrev tail_of : List Value → List Value
tail_of [] = []
tail_of (v ∷ vs) = vs

row_to : (t : Ty) (ts : List Ty) (r : List Value) → ((p : Value × List Value) × (r ≡ pair_row p) × (HasValueText (bare t) p.0 × HasRowText ts p.1)) → HasRowText (t ∷ ts) r
row_to t ts r p = subst (HasRowText (t ∷ ts)) (sym p.1) p.2

row_from : (t : Ty) (ts : List Ty) (r : List Value) → HasRowText (t ∷ ts) r → (p : Value × List Value) × (r ≡ pair_row p) × (HasValueText (bare t) p.0 × HasRowText ts p.1)
row_from t ts [] k = absurd k
row_from t ts (v ∷ vs) k = ((v, vs), refl, (k.0, k.1))

pub exact_row : (whole : ℕ) (ts : List Ty) → AreSpelledTypes ts → IsExact (row_at whole ts) (row_text ts) (HasRowText ts)
exact_row whole [] s = record {
  takes = λ bytes y fits e. subst (λ (z : List Value × List ℕ). Takes bytes (row_text [] z.0) z.1 × HasRowText [] z.0) (ok_is ([], bytes) y e) (takes_none bytes fits, tt);
  again = none_again;
}
  where
    none_again : (r : List Value) (rest : List ℕ) → HasRowText [] r → row_at whole [] (row_text [] r ++ rest) ≡ Ok (r, rest)
    none_again [] rest k = refl
    none_again (v ∷ vs) rest k = absurd k
exact_row whole (t ∷ ts) s =
    exact_text (row_at whole (t ∷ ts)) (λ r. value_text (bare t) (head_of r) ++ row_text ts (tail_of r)) (row_text (t ∷ ts)) (HasRowText (t ∷ ts)) same
    (exact_as (row_at whole (t ∷ ts)) (λ r. value_text (bare t) (head_of r) ++ row_text ts (tail_of r)) (λ r. (p : Value × List Value) × (r ≡ pair_row p) × (HasValueText (bare t) p.0 × HasRowText ts p.1)) (HasRowText (t ∷ ts)) (row_to t ts) (row_from t ts)
    (exact_made pair_row (λ r. (head_of r, tail_of r)) (both_at (value_at whole (bare t)) (row_at whole ts)) (λ p. value_text (bare t) p.0 ++ row_text ts p.1) (λ p. HasValueText (bare t) p.0 × HasRowText ts p.1) (λ p k. refl)
    (exact_both (value_at whole (bare t)) (value_text (bare t)) (HasValueText (bare t)) (row_at whole ts) (row_text ts) (HasRowText ts) (exact_value whole (bare t) s.0) (exact_row whole ts s.1))))
  where
    same : (r : List Value) → HasRowText (t ∷ ts) r → value_text (bare t) (head_of r) ++ row_text ts (tail_of r) ≡ row_text (t ∷ ts) r
    same [] k = absurd k
    same (v ∷ vs) k = refl
