-- What the laws ask of a chain and of its argument types; the rules on types ask for more.
use Rattle.std.specs.Prelude.{◌<◌, ◌<ℤ◌, FitsSigned, zero, List, [], ◌∷◌, Some, ◌≡◌}
use mir.Syntax.{w64}
use Rattle.agg_terms.specs.Chains.{ArgMax, ArgMin, Array, Chain, Count, Distinct, ForEach, GroupArray, GroupBit, If, Leaf, MapOf, Merge, Nullable, Of, OrDefault, OrNull, Resample, Retention, SequenceMatch, Signed, State, Sum, Ty, UniqExact, Whole, WindowFunnel}
use Rattle.agg_terms.specs.Lists.{Each}
use Rattle.agg_terms.specs.Trees.{IsStateless}
use Rattle.agg_terms.specs.Types.{bare, inward}

-- groupArray takes one value or more
abbrev pub TakesSome : Leaf → Type 0
TakesSome (GroupArray (Some zero)) = ⊥
TakesSome _ = Unit {0}

-- parameters: that, and -Resample has a step, and its start below its end, both in Int64
abbrev pub IsSound : Chain → Type 0
IsSound (Of f) = TakesSome f
IsSound (If c) = IsSound c
IsSound (Array c) = IsSound c
IsSound (MapOf c) = IsSound c
IsSound (ForEach c) = IsSound c
IsSound (OrNull c) = IsSound c
IsSound (OrDefault c) = IsSound c
IsSound (Distinct c) = IsSound c
IsSound (State c) = IsSound c
IsSound (Merge c) = IsSound c
IsSound (Resample start end step c) = (start <ℤ end) × (0 < step) × IsSound c × FitsSigned w64 start × FitsSigned w64 end

-- the types of numbers, of times and of conditions
abbrev pub IsNumber : Ty → Type 0
IsNumber (Whole n) = Unit {0}
IsNumber (Signed w) = Unit {0}
IsNumber _ = ⊥

abbrev pub IsTime : Ty → Type 0
IsTime (Whole n) = Unit {0}
IsTime (Nullable t) = IsTime t
IsTime _ = ⊥

abbrev pub IsCondition : Ty → Type 0
IsCondition (Whole n) = n ≡ 8
IsCondition (Nullable t) = IsCondition t
IsCondition _ = ⊥

-- a time and conditions
abbrev pub TakesTime : List Ty → Type 0
TakesTime [] = ⊥
TakesTime (t ∷ ts) = IsTime t × Each IsCondition ts

-- the argument types of a function
abbrev pub TakesTypes : Leaf → List Ty → Type 0
TakesTypes Count ts = Unit {0}
TakesTypes Sum ts = (t : Ty) × (ts ≡ t ∷ []) × IsNumber (bare t)
TakesTypes ArgMin ts = (t : Ty) × (u : Ty) × (ts ≡ t ∷ u ∷ []) × IsStateless t × IsStateless u
TakesTypes ArgMax ts = (t : Ty) × (u : Ty) × (ts ≡ t ∷ u ∷ []) × IsStateless t × IsStateless u
TakesTypes UniqExact ts = Each IsStateless ts
TakesTypes (WindowFunnel window strict) ts = TakesTime ts
TakesTypes (SequenceMatch pattern) ts = TakesTime ts
TakesTypes Retention ts = Each IsCondition ts
TakesTypes (GroupBit op) ts = (t : Ty) × (ts ≡ t ∷ []) × IsNumber (bare t)
TakesTypes _ ts = (t : Ty) × (ts ≡ t ∷ []) × IsStateless t

-- the argument types of a chain: its function's are such, and no state stands among those of -Distinct
abbrev pub IsTyped : Chain → List Ty → Type 0
IsTyped (Of f) ts = TakesTypes f ts
IsTyped (If c) ts = IsTyped c (inward (If c) ts)
IsTyped (Array c) ts = IsTyped c (inward (Array c) ts)
IsTyped (MapOf c) ts = IsTyped c (inward (MapOf c) ts)
IsTyped (ForEach c) ts = IsTyped c (inward (ForEach c) ts)
IsTyped (OrNull c) ts = IsTyped c ts
IsTyped (OrDefault c) ts = IsTyped c ts
IsTyped (Distinct c) ts = Each IsStateless ts × IsTyped c ts
IsTyped (State c) ts = IsTyped c ts
IsTyped (Merge c) ts = IsTyped c (inward (Merge c) ts)
IsTyped (Resample start end step c) ts = IsTyped c (inward (Resample start end step c) ts)
