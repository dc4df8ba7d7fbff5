-- What the test of functions and types brings.
use Rattle.std.proofs.Common.{◌≡◌, true, List, refl, true≢false, sym, arith}
use Rattle.agg_terms.specs.Chains.{Leaf, Ty, UniqExact}
use Rattle.set_leaves.specs.Served.{IsServed, is_served}

pub served : (f : Leaf) (ts : List Ty) → is_served f ts ≡ true → IsServed f ts
served UniqExact ts e = (refl, grind (arith, e), grind (arith, e))
served _ ts e = absurd (true≢false (sym e))
