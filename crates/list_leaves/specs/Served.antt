-- The functions and argument types that the states of lists serve.
use Rattle.std.specs.Prelude.{zero, Bool, true, false, List, [], ◌∷◌, Some}
use Rattle.agg_terms.specs.Chains.{GroupArray, Leaf, QuantileExact, Signed, Ty, Whole}
use Rattle.agg_terms.specs.Types.{bare, is_one_number}
use Rattle.agg_typing.specs.Kinds.{holds_no_state}

-- one argument of a type without a state
abbrev pub is_one_stateless : List Ty → Bool
is_one_stateless (t ∷ []) = holds_no_state t
is_one_stateless _ = false

-- groupArray that keeps one value or more
abbrev pub is_array_served : Leaf → List Ty → Bool
is_array_served (GroupArray (Some zero)) ts = false
is_array_served (GroupArray most) ts = is_one_stateless ts
is_array_served _ ts = false

-- quantileExact over one number
abbrev pub is_quantile_served : Leaf → List Ty → Bool
is_quantile_served (QuantileExact level) ts = is_one_number ts
is_quantile_served _ ts = false

-- The same as what the code may rest on: the functions alone,
abbrev pub IsArrayFunction : Leaf → Type 0
IsArrayFunction (GroupArray (Some zero)) = ⊥
IsArrayFunction (GroupArray most) = Unit {0}
IsArrayFunction _ = ⊥

abbrev pub IsQuantile : Leaf → Type 0
IsQuantile (QuantileExact level) = Unit {0}
IsQuantile _ = ⊥

-- a type of numbers,
abbrev pub IsNumberType : Ty → Type 0
IsNumberType (Whole n) = Unit {0}
IsNumberType (Signed w) = Unit {0}
IsNumberType _ = ⊥

-- and one argument
abbrev pub IsOne : List Ty → Type 0
IsOne (t ∷ []) = Unit {0}
IsOne _ = ⊥
