-- The functions and argument types that a state of the best row serves.
use Rattle.std.specs.Prelude.{Bool, true, false, ◌&&◌, List, [], ◌∷◌}
use Rattle.agg_terms.specs.Chains.{ArgMax, ArgMin, Leaf, Max, Min, Signed, Str, Ty, Whole}
use Rattle.agg_terms.specs.Types.{bare}

-- String
abbrev pub is_text : Ty → Bool
is_text Str = true
is_text _ = false

-- a type of numbers, or String
abbrev pub is_single : Ty → Bool
is_single (Whole n) = true
is_single (Signed w) = true
is_single Str = true
is_single _ = false

-- one argument, a String or a Nullable one
abbrev pub is_one_text : List Ty → Bool
is_one_text (t ∷ []) = is_text (bare t)
is_one_text _ = false

-- two arguments, each a number, a String or a Nullable of these
abbrev pub are_two_single : List Ty → Bool
are_two_single (t ∷ u ∷ []) = is_single (bare t) && is_single (bare u)
are_two_single _ = false

-- The functions and argument types that are served: min and max over one String, argMin and argMax over two arguments
abbrev pub is_served : Leaf → List Ty → Bool
is_served Min ts = is_one_text ts
is_served Max ts = is_one_text ts
is_served ArgMin ts = are_two_single ts
is_served ArgMax ts = are_two_single ts
is_served _ ts = false

-- The same as what the code may rest on: the functions alone,
abbrev pub IsServedFunction : Leaf → Type 0
IsServedFunction Min = Unit {0}
IsServedFunction Max = Unit {0}
IsServedFunction ArgMin = Unit {0}
IsServedFunction ArgMax = Unit {0}
IsServedFunction _ = ⊥

-- a type of numbers, or String
abbrev pub IsSingle : Ty → Type 0
IsSingle (Whole n) = Unit {0}
IsSingle (Signed w) = Unit {0}
IsSingle Str = Unit {0}
IsSingle _ = ⊥

-- and one or two arguments
abbrev pub AreFew : List Ty → Type 0
AreFew (t ∷ []) = Unit {0}
AreFew (t ∷ u ∷ []) = Unit {0}
AreFew _ = ⊥
