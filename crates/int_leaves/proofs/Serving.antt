-- What the test of functions and types brings.
use Rattle.std.proofs.Common.{◌≡◌, ◌≤◌, true, List, [], ◌∷◌, length, refl, true≢false, sym, arith}
use Rattle.agg_terms.specs.Chains.{Arr, Count, GroupBit, Leaf, MapTy, Max, Min, Nullable, Retention, Signed, StateOf, Str, Sum, Ty, Whole}
use Rattle.agg_terms.specs.Types.{bare, is_number_type, is_one_number}
use Rattle.agg_meaning.specs.Lawful.{IsNumber}
use Rattle.int_leaves.specs.Served.{IsServed, is_served}

number_is : (t : Ty) → is_number_type t ≡ true → IsNumber t
number_is (Whole n) e = tt
number_is (Signed w) e = tt
number_is Str e = absurd (true≢false (sym e))
number_is (Arr t) e = absurd (true≢false (sym e))
number_is (MapTy k t) e = absurd (true≢false (sym e))
number_is (Nullable t) e = absurd (true≢false (sym e))
number_is (StateOf c ts) e = absurd (true≢false (sym e))

one_number : (ts : List Ty) → is_one_number ts ≡ true → (length ts ≤ 32) × ((t : Ty) × (ts ≡ t ∷ []) × IsNumber (bare t))
one_number [] e = absurd (true≢false (sym e))
one_number (t ∷ []) e = (omega arith, (t, refl, number_is (bare t) e))
one_number (t ∷ u ∷ ts) e = absurd (true≢false (sym e))

pub served : (f : Leaf) (ts : List Ty) → is_served f ts ≡ true → IsServed f ts
served Count ts e = (tt, grind (arith, e), tt)
served Retention ts e = (tt, grind (arith, e), tt)
served Sum ts e = (tt, (one_number ts e).0, (one_number ts e).1)
served Min ts e = (tt, (one_number ts e).0, (one_number ts e).1)
served Max ts e = (tt, (one_number ts e).0, (one_number ts e).1)
served (GroupBit op) ts e = (tt, (one_number ts e).0, (one_number ts e).1)
served _ ts e = absurd (true≢false (sym e))
