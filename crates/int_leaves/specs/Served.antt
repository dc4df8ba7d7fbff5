-- The functions and argument types that a state of one word serves.
use Rattle.std.specs.Prelude.{◌≡◌, ◌≤◌, nat_le, Bool, true, false, List, [], ◌∷◌, length}
use Rattle.agg_terms.specs.Chains.{Count, GroupBit, Leaf, Max, Min, Retention, Signed, Sum, Ty, Whole}
use Rattle.agg_terms.specs.Types.{bare, is_one_number}
use Rattle.agg_meaning.specs.Lawful.{IsNumber}

-- The functions and argument types that are served: count and retention over at most 32 arguments,
-- sum, min, max and the three groupBit functions over one number.
abbrev pub is_served : Leaf → List Ty → Bool
is_served Count ts = nat_le (length ts) 32
is_served Retention ts = nat_le (length ts) 32
is_served Sum ts = is_one_number ts
is_served Min ts = is_one_number ts
is_served Max ts = is_one_number ts
is_served (GroupBit op) ts = is_one_number ts
is_served _ ts = false

-- The same as what the code may rest on: the functions alone,
abbrev pub IsServedFunction : Leaf → Type 0
IsServedFunction Count = Unit {0}
IsServedFunction Sum = Unit {0}
IsServedFunction Min = Unit {0}
IsServedFunction Max = Unit {0}
IsServedFunction (GroupBit op) = Unit {0}
IsServedFunction Retention = Unit {0}
IsServedFunction _ = ⊥

-- what holds of the functions that work on a number: all of them but count and retention
abbrev pub IfOfNumbers : Leaf → Type 0 → Type 0
IfOfNumbers Count P = Unit {0}
IfOfNumbers Retention P = Unit {0}
IfOfNumbers _ P = P

-- such a function has one argument, a number or a Nullable one; all have at most 32
abbrev pub IsServed : Leaf → List Ty → Type 0
IsServed f ts = IsServedFunction f × (length ts ≤ 32) × IfOfNumbers f ((t : Ty) × (ts ≡ t ∷ []) × IsNumber (bare t))
