-- What the tests of functions and types bring.
use Rattle.std.proofs.Common.{◌≡◌, zero, suc, true, List, [], ◌∷◌, length, Some, None, refl, true≢false, sym}
use Rattle.agg_terms.specs.Chains.{Arr, GroupArray, Leaf, MapTy, Nullable, QuantileExact, Signed, StateOf, Str, Ty, Whole}
use Rattle.agg_terms.specs.Types.{bare, first_type, is_number_type, is_one_number}
use Rattle.list_leaves.specs.Served.{IsArrayFunction, IsNumberType, IsOne, IsQuantile, is_array_served, is_one_stateless, is_quantile_served}

number_is : (t : Ty) → is_number_type t ≡ true → IsNumberType t
number_is (Whole n) e = tt
number_is (Signed w) e = tt
number_is Str e = absurd (true≢false (sym e))
number_is (Arr t) e = absurd (true≢false (sym e))
number_is (MapTy k t) e = absurd (true≢false (sym e))
number_is (Nullable t) e = absurd (true≢false (sym e))
number_is (StateOf c ts) e = absurd (true≢false (sym e))

one_number : (ts : List Ty) → is_one_number ts ≡ true → IsOne ts × IsNumberType (bare (first_type ts))
one_number [] e = absurd (true≢false (sym e))
one_number (t ∷ []) e = (tt, number_is (bare t) e)
one_number (t ∷ u ∷ ts) e = absurd (true≢false (sym e))

pub one_length : (ts : List Ty) → IsOne ts → 1 ≡ length ts
one_length [] k = absurd k
one_length (t ∷ []) k = refl
one_length (t ∷ u ∷ ts) k = absurd k

pub quantile_served : (f : Leaf) (ts : List Ty) → is_quantile_served f ts ≡ true → IsQuantile f × IsOne ts × IsNumberType (bare (first_type ts))
quantile_served (QuantileExact level) ts e = (tt, (one_number ts e).0, (one_number ts e).1)
quantile_served _ ts e = absurd (true≢false (sym e))

one_stateless : (ts : List Ty) → is_one_stateless ts ≡ true → IsOne ts
one_stateless [] e = absurd (true≢false (sym e))
one_stateless (t ∷ []) e = tt
one_stateless (t ∷ u ∷ ts) e = absurd (true≢false (sym e))

pub array_served : (f : Leaf) (ts : List Ty) → is_array_served f ts ≡ true → IsArrayFunction f × IsOne ts
array_served (GroupArray None) ts e = (tt, one_stateless ts e)
array_served (GroupArray (Some zero)) ts e = absurd (true≢false (sym e))
array_served (GroupArray (Some (suc n))) ts e = (tt, one_stateless ts e)
array_served _ ts e = absurd (true≢false (sym e))
