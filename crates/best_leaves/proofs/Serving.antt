-- What the test of functions and types brings.
use Rattle.std.proofs.Common.{◌≡◌, true, Bool, false, ◌&&◌, List, [], ◌∷◌, refl, true≢false, sym}
use Rattle.agg_terms.specs.Chains.{ArgMax, ArgMin, Arr, Leaf, MapTy, Max, Min, Nullable, Signed, StateOf, Str, Ty, Whole}
use Rattle.agg_terms.specs.Types.{bare, first_type}
use Rattle.best_leaves.specs.Served.{AreFew, IsServedFunction, IsSingle, are_two_single, is_one_text, is_served, is_single, is_text}

single_is : (t : Ty) → is_single t ≡ true → IsSingle t
single_is (Whole n) e = tt
single_is (Signed w) e = tt
single_is Str e = tt
single_is (Arr t) e = absurd (true≢false (sym e))
single_is (MapTy k t) e = absurd (true≢false (sym e))
single_is (Nullable t) e = absurd (true≢false (sym e))
single_is (StateOf c ts) e = absurd (true≢false (sym e))

text_is : (t : Ty) → is_text t ≡ true → IsSingle t
text_is Str e = tt
text_is (Whole n) e = absurd (true≢false (sym e))
text_is (Signed w) e = absurd (true≢false (sym e))
text_is (Arr t) e = absurd (true≢false (sym e))
text_is (MapTy k t) e = absurd (true≢false (sym e))
text_is (Nullable t) e = absurd (true≢false (sym e))
text_is (StateOf c ts) e = absurd (true≢false (sym e))

first_of : (a b : Bool) → a && b ≡ true → a ≡ true
first_of true b e = refl
first_of false b e = e

one_text : (ts : List Ty) → is_one_text ts ≡ true → IsSingle (bare (first_type ts)) × AreFew ts
one_text [] e = absurd (true≢false (sym e))
one_text (t ∷ []) e = (text_is (bare t) e, tt)
one_text (t ∷ u ∷ ts) e = absurd (true≢false (sym e))

two_single : (ts : List Ty) → are_two_single ts ≡ true → IsSingle (bare (first_type ts)) × AreFew ts
two_single [] e = absurd (true≢false (sym e))
two_single (t ∷ []) e = absurd (true≢false (sym e))
two_single (t ∷ u ∷ []) e = (single_is (bare t) (first_of (is_single (bare t)) (is_single (bare u)) e), tt)
two_single (t ∷ u ∷ v ∷ ts) e = absurd (true≢false (sym e))

pub served : (f : Leaf) (ts : List Ty) → is_served f ts ≡ true → IsServedFunction f × IsSingle (bare (first_type ts)) × AreFew ts
served Min ts e = (tt, (one_text ts e).0, (one_text ts e).1)
served Max ts e = (tt, (one_text ts e).0, (one_text ts e).1)
served ArgMin ts e = (tt, (two_single ts e).0, (two_single ts e).1)
served ArgMax ts e = (tt, (two_single ts e).0, (two_single ts e).1)
served _ ts e = absurd (true≢false (sym e))
