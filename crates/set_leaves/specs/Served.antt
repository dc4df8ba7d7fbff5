-- The function and the argument types that a state of different tuples serves.
use Rattle.std.specs.Prelude.{◌≡◌, ◌≤◌, nat_le, Bool, false, ◌&&◌, List, length}
use Rattle.agg_terms.specs.Chains.{Leaf, Ty, UniqExact}

-- uniqExact over 1 to 32 arguments
abbrev pub is_served : Leaf → List Ty → Bool
is_served UniqExact ts = nat_le 1 (length ts) && nat_le (length ts) 32
is_served _ ts = false

-- The same as what the code may rest on
abbrev pub IsServed : Leaf → List Ty → Type 0
IsServed f ts = (f ≡ UniqExact) × (1 ≤ length ts) × (length ts ≤ 32)
