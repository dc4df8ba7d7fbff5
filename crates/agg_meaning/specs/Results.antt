-- Result types, state types and defaults of a chain over its argument types.
use Rattle.std.specs.Prelude.{pos, Bool, true, false, cond, List, [], map, replicate}
use mir.Syntax.{w64}
use Rattle.agg_terms.specs.Chains.{Arr, Array, Chain, Count, Distinct, ForEach, GroupArray, If, Leaf, MapOf, MapTy, Merge, Nullable, Of, OrDefault, OrNull, QuantileExact, Resample, Retention, SequenceMatch, Signed, State, StateOf, Str, Sum, Ty, UniqExact, Whole, WindowFunnel, tys}
use Rattle.agg_terms.specs.Values.{Bytes, Cell, Empty, Nil, Num, Tree, Value, keyed_tree, list_value, map_value, rows_tree, slots_tree, values_tree}
use Rattle.agg_terms.specs.Types.{any_null, bare, first_type, intervals, inward, is_signed, key_type}

-- the state of no rows of a function
abbrev pub leaf_blank : Leaf → Tree
leaf_blank (GroupArray most) = values_tree []
leaf_blank UniqExact = rows_tree []
leaf_blank (QuantileExact level) = values_tree []
leaf_blank _ = Empty

abbrev pub nullable_if : Bool → Ty → Ty
nullable_if b t = cond b (Nullable t) t

-- A function's result type. Where an argument is Nullable, the functions of the last line and sum have a Nullable result.
-- Manual: "Aggregate functions reference"; what is said of Nullable, and all but sum's, is this project's own choice.
abbrev pub leaf_result : Leaf → List Ty → Ty
leaf_result Count ts = Whole 64
leaf_result Sum ts = nullable_if (any_null ts) (cond (is_signed (first_type ts)) (Signed w64) (Whole 64))
leaf_result (GroupArray most) ts = Arr (bare (first_type ts))
leaf_result UniqExact ts = Whole 64
leaf_result (WindowFunnel window strict) ts = Whole 8
leaf_result (SequenceMatch pattern) ts = Whole 8
leaf_result Retention ts = Arr (Whole 8)
leaf_result _ ts = nullable_if (any_null ts) (bare (first_type ts))

-- The state of no rows of a chain.
abbrev pub blank : Chain → Tree
blank (Of f) = leaf_blank f
blank (If c) = blank c
blank (Array c) = blank c
blank (MapOf c) = keyed_tree []
blank (ForEach c) = slots_tree []
blank (OrNull c) = blank c
blank (OrDefault c) = blank c
blank (Distinct c) = rows_tree []
blank (State c) = blank c
blank (Merge c) = blank c
blank (Resample start end step c) = slots_tree (replicate (intervals start end step) (blank c))

-- The default of a type; of a state type it is the state of no rows. Manual: "Aggregate function combinators", -OrDefault.
abbrev pub default : Ty → Value
default (Whole n) = Num (pos 0)
default (Signed n) = Num (pos 0)
default Str = Bytes []
default (Arr t) = list_value []
default (MapTy k t) = map_value []
default (Nullable t) = Nil
default (StateOf c ts) = Cell (blank c)

-- a type that has NULL or can be given it
abbrev pub can_be_null : Ty → Bool
can_be_null (Whole n) = true
can_be_null (Signed n) = true
can_be_null Str = true
can_be_null (Nullable t) = true
can_be_null _ = false

-- -OrNull makes number types and String Nullable. Manual: the same, -OrNull; that no other type changes is this project's own choice.
abbrev pub with_null : Ty → Ty
with_null (Whole n) = Nullable (Whole n)
with_null (Signed n) = Nullable (Signed n)
with_null Str = Nullable Str
with_null t = t

-- The type of a chain's states; -State and -Merge have the states of their inner chain. Manual: "AggregateFunction".
abbrev pub state_type : Chain → List Ty → Ty
state_type (State c) ts = state_type c ts
state_type (Merge c) ts = state_type c (inward (Merge c) ts)
state_type c ts = StateOf c (tys ts)

-- The type of a chain's result. Manual: "Aggregate function combinators".
abbrev pub result : Chain → List Ty → Ty
result (Of f) ts = leaf_result f ts
result (If c) ts = result c (inward (If c) ts)
result (Array c) ts = result c (inward (Array c) ts)
result (MapOf c) ts = MapTy (key_type (first_type ts)) (result c (inward (MapOf c) ts))
result (ForEach c) ts = Arr (result c (inward (ForEach c) ts))
result (OrNull c) ts = with_null (result c ts)
result (OrDefault c) ts = result c ts
result (Distinct c) ts = result c ts
result (State c) ts = state_type c ts
result (Merge c) ts = result c (inward (Merge c) ts)
result (Resample start end step c) ts = Arr (result c (inward (Resample start end step c) ts))

-- a row of the defaults of these types, taken without Nullable
abbrev pub plain_row : List Ty → List Value
plain_row ts = map (λ t. default (bare t)) ts
