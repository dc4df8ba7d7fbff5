-- The bytes of values are read as these values.
use Rattle.std.proofs.Common.{◌≡◌, ℕ, zero, suc, ◌/◌, ◌^◌, ◌<◌, Bool, true, false, List, [], ◌∷◌, ◌++◌, length, take, drop, min, refl, sym, ap, ap₂, subst, ◌∙◌, arith, inl, inr}
use Rattle.std.specs.Int.{byte_len, bytes_high_first, cast_unsigned}
use Rattle.std.proofs.lemmas.Int.{to_z-of_z}
use Rattle.std.proofs.Math.Facts.{Fits-of_z}
use Rattle.std.proofs.lemmas.List.{take_at, drop_at}
use Rattle.agg_terms.specs.Chains as terms
use Rattle.agg_terms.specs.Lists.{Each}
use Rattle.agg_terms.specs.Trees.{IsValue}
use Rattle.agg_terms.specs.Values.{Value, Num, Bytes, Nil, Items, Pairs, Cell, is_null}
use Rattle.agg_meaning.specs.Feeds.{AreValues}
use Rattle.value_types.specs.Folds.{value_of}
use Rattle.value_types.specs.declared.value.Value.TheVariants as value
use Rattle.value_types.proofs.FoldLaws.{value_of-Bytes}
use Rattle.key_methods.specs.Figures.{worth}
use Rattle.key_methods.specs.proving.Fronts.{flag_front, number_at, number_front, text_front, value_front, values_front}
use Rattle.key_methods.specs.KeyBytes.{AreShort, IsShort, flagged, text_bytes, value_bytes, values_bytes}
use Rattle.key_methods.proofs.Columns.{IsColumn}
use Rattle.key_methods.proofs.Figures.{length-bytes, power_bits, width_bits, worth-bytes}
use Rattle.std.proofs.Math.Nat.{mod-eq_of_lt}

take_front : (xs ys : List ℕ) (k : ℕ) → length xs ≡ k → take k (xs ++ ys) ≡ xs
take_front xs ys k e = take_at xs ys k e

drop_front : (xs ys : List ℕ) (k : ℕ) → length xs ≡ k → drop k (xs ++ ys) ≡ ys
drop_front xs ys k e = drop_at xs ys k e

-- a number of k bytes is read back
worth_back : (k n : ℕ) → n < 256 ^ k → worth (bytes_high_first k n) ≡ n
worth_back k n h = worth-bytes k n 0 ∙ omega (arith, mod-eq_of_lt h)

number_back : (t : terms.Ty) (k n : ℕ) (rest : List ℕ) → n < 256 ^ k → number_front t k (bytes_high_first k n ++ rest) ≡ (number_at t n, rest)
number_back t k n rest h =
    ap₂ (λ front after. (number_at t (worth front), after)) (take_front (bytes_high_first k n) rest k (length-bytes k n)) (drop_front (bytes_high_first k n) rest k (length-bytes k n))
    ∙ ap (λ m. (number_at t m, rest)) (worth_back k n h)

pub not_null : (t : terms.Ty) (v : Value) → is_null v ≡ false → IsValue (terms.Nullable t) v → IsValue t v
not_null t v e (inl n) = absurd (subst (λ u. is_null u ≡ false → ⊥) (sym n) (λ c. absurd cc) e)
not_null t v e (inr k) = k

flag_back : (t : terms.Ty) (v : Value) (b : Bool) (rest : List ℕ) → is_null v ≡ b → (b ≡ true → v ≡ Nil) → (b ≡ false → value_front t (value_bytes t v ++ rest) ≡ (v, rest))
    → flag_front (value_front t) (flagged b (value_bytes t v) ++ rest) ≡ (v, rest)
flag_back t v true rest e null value = ap (λ u. (u, rest)) (sym (null refl))
flag_back t v false rest e null value = value refl

null_is : (v : Value) → is_null v ≡ true → v ≡ Nil
null_is (Num n) e = absurd cc
null_is (Bytes b) e = absurd cc
null_is Nil e = refl
null_is (Items vs) e = absurd cc
null_is (Pairs es) e = absurd cc
null_is (Cell c) e = absurd cc

text_back : (b rest : List ℕ) → length b < 2 ^ 64 → value_front terms.Str (text_bytes b ++ rest) ≡ (Bytes b, rest)
text_back b rest h =
    let front = number_back terms.Str 8 (length b) (b ++ rest) h in
    let bytes = bytes_high_first 8 (length b) in
    ap₂ (λ count after. text_front count after)
    (ap worth (ap (take 8) (assoc bytes b rest) ∙ take_front bytes (b ++ rest) 8 (length-bytes 8 (length b))) ∙ worth_back 8 (length b) h)
    (ap (drop 8) (assoc bytes b rest) ∙ drop_front bytes (b ++ rest) 8 (length-bytes 8 (length b)))
    ∙ ap₂ (λ front after. (Bytes front, after)) (take_front b rest (length b) refl) (drop_front b rest (length b) refl)
  where
    assoc : (xs ys zs : List ℕ) → (xs ++ ys) ++ zs ≡ xs ++ (ys ++ zs)
    assoc [] ys zs = refl
    assoc (x ∷ xs) ys zs = ap (λ l. x ∷ l) (assoc xs ys zs)

pub value_back : (t : terms.Ty) (v : Value) (rest : List ℕ) → IsColumn t → IsValue t v → IsShort v → value_front t (value_bytes t v ++ rest) ≡ (v, rest)
value_back (terms.Whole n) v rest c p s =
    subst (λ u. value_front (terms.Whole n) (value_bytes (terms.Whole n) u ++ rest) ≡ (u, rest)) (sym p.1)
    (number_back (terms.Whole n) (n / 8) p.0 rest (subst (λ m. p.0 < m) (ap (λ m. 2 ^ m) c.0 ∙ sym (power_bits (n / 8))) p.2))
value_back (terms.Signed w) v rest c p s =
    subst (λ u. value_front (terms.Signed w) (value_bytes (terms.Signed w) u ++ rest) ≡ (u, rest)) (sym p.1)
    (number_back (terms.Signed w) (byte_len w) (cast_unsigned w p.0) rest (subst (λ m. cast_unsigned w p.0 < m) (sym (width_bits w)) (Fits-of_z p.2).fits)
    ∙ ap (λ z. (Num z, rest)) (to_z-of_z w p.0 p.2))
value_back terms.Str v rest c p s =
    subst (λ u. value_front terms.Str (value_bytes terms.Str u ++ rest) ≡ (u, rest)) (sym p.1) (text_back p.0 rest (subst IsShort p.1 s))
value_back (terms.Nullable t) v rest c p s =
    flag_back t v (is_null v) rest refl (null_is v) (λ e. value_back t v rest c (not_null t v e p) s)
value_back (terms.Arr t) v rest c p s = absurd c
value_back (terms.MapTy k t) v rest c p s = absurd c
value_back (terms.StateOf k ts) v rest c p s = absurd c

pub values_back : (ts : List terms.Ty) (vs : List Value) → Each IsColumn ts → AreValues ts vs → AreShort vs → values_front ts (values_bytes ts vs) ≡ vs
values_back [] [] c p s = refl
values_back [] (v ∷ vs) c p s = absurd p
values_back (t ∷ ts) [] c p s = absurd p
values_back (t ∷ ts) (v ∷ vs) c p s =
    let front = value_back t v (values_bytes ts vs) c.0 p.0 s.0 in
    ap (λ (z : Value × List ℕ). z.0 ∷ values_front ts z.1) front ∙ ap (λ l. v ∷ l) (values_back ts vs c.1 p.1 s.1)

-- as much as there is
pub take-min : (xs : List ℕ) (m k : ℕ) → m ≡ min (length xs) k → take m xs ≡ take k xs
take-min [] zero zero e = refl
take-min [] zero (suc k) e = refl
take-min [] (suc m) zero e = refl
take-min [] (suc m) (suc k) e = refl
take-min (x ∷ xs) zero zero e = refl
take-min (x ∷ xs) zero (suc k) e = absurd (omega (arith, e))
take-min (x ∷ xs) (suc m) zero e = absurd (omega (arith, e))
take-min (x ∷ xs) (suc m) (suc k) e = ap (λ l. x ∷ l) (take-min xs m k (omega (arith, e)))

pub drop-min : (xs : List ℕ) (m k : ℕ) → m ≡ min (length xs) k → drop m xs ≡ drop k xs
drop-min [] zero zero e = refl
drop-min [] zero (suc k) e = refl
drop-min [] (suc m) zero e = refl
drop-min [] (suc m) (suc k) e = refl
drop-min (x ∷ xs) zero zero e = refl
drop-min (x ∷ xs) zero (suc k) e = absurd (omega (arith, e))
drop-min (x ∷ xs) (suc m) zero e = absurd (omega (arith, e))
drop-min (x ∷ xs) (suc m) (suc k) e = drop-min xs m k (omega (arith, e))

pub text_read : (bytes front rest text after f : List ℕ) (mid count n : ℕ) → mid ≡ min (length bytes) 8 → front ≡ take mid bytes → rest ≡ drop mid bytes
    → n ≡ worth front → count ≡ min n (length rest) → text ≡ take count rest → after ≡ drop count rest → f ≡ text
    → (value_of (value.Bytes f), after) ≡ text_front (worth (take 8 bytes)) (drop 8 bytes)
text_read bytes front rest text after f mid count n mid_is front_is rest_is n_is count_is text_is after_is f_is =
    let all : rest ≡ drop 8 bytes = rest_is ∙ drop-min bytes mid 8 mid_is in
    let some : n ≡ worth (take 8 bytes) = n_is ∙ ap worth (front_is ∙ take-min bytes mid 8 mid_is) in
    ap₂ (λ u a. (u, a)) (value_of-Bytes f ∙ ap Bytes (f_is ∙ text_is ∙ take-min rest count n (omega (arith, count_is)))) (after_is ∙ drop-min rest count n (omega (arith, count_is)))
    ∙ ap₂ (λ c r. text_front c r) some all
