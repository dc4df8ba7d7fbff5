-- The rule on the types of arguments, at each link of a chain.
use Rattle.std.specs.Prelude.{ℕ, nat_eq, Bool, true, false, cond, ◌&&◌, List, [], ◌∷◌, map, Option, Some, None}
use Rattle.agg_terms.specs.Chains.{Leaf, Chain, Ty}
use Rattle.agg_terms.specs.Chains as C
use Rattle.agg_terms.specs.Lists.{front}
use Rattle.agg_terms.specs.Types.{element, map_part}
use Rattle.agg_typing.specs.Faults.{Fault, ArgType, or_else}

-- UInt8 to UInt64 and Int8 to Int64 (manual: "Int and UInt"). Here and below a type may be Nullable of what is named.
abbrev pub is_number : Ty → Bool
is_number (C.Whole n) = true
is_number (C.Signed w) = true
is_number (C.Nullable t) = is_number t
is_number _ = false

-- a number or String
abbrev pub is_number_or_text : Ty → Bool
is_number_or_text C.Str = true
is_number_or_text (C.Whole n) = true
is_number_or_text (C.Signed w) = true
is_number_or_text (C.Nullable t) = is_number_or_text t
is_number_or_text _ = false

-- a timestamp: UInt8 to UInt64
abbrev pub is_time : Ty → Bool
is_time (C.Whole n) = true
is_time (C.Nullable t) = is_time t
is_time _ = false

-- a condition: UInt8
abbrev pub is_condition : Ty → Bool
is_condition (C.Whole n) = nat_eq n 8
is_condition (C.Nullable t) = is_condition t
is_condition _ = false

-- an Array
abbrev pub is_array : Ty → Bool
is_array (C.Arr t) = true
is_array _ = false

-- a Map
abbrev pub is_map : Ty → Bool
is_map (C.MapTy k t) = true
is_map _ = false

-- a type that holds no state at any depth
abbrev pub holds_no_state : Ty → Bool
holds_no_state (C.Whole n) = true
holds_no_state (C.Signed w) = true
holds_no_state C.Str = true
holds_no_state (C.Arr t) = holds_no_state t
holds_no_state (C.MapTy k t) = holds_no_state k && holds_no_state t
holds_no_state (C.Nullable t) = holds_no_state t
holds_no_state (C.StateOf c ts) = false

-- a type with the number of the argument that it came from.
abbrev pub Arg : Type 0
Arg = ℕ × Ty

-- parts of types, each with the number of the argument that it came from
abbrev pub with_parts : (Ty → Ty) → List Arg → List Arg
with_parts part args = map (λ (a : Arg). (a.0, part a.1)) args

-- Type of an argument: the first that isn't of the kind.
abbrev pub each_is : (Ty → Bool) → List Arg → Option Fault
each_is kind [] = None
each_is kind (a ∷ args) = cond (kind a.1) (each_is kind args) (Some (ArgType a.0))

-- Type of an argument: the last, where it isn't of the kind.
abbrev pub last_is : (Ty → Bool) → List Arg → Option Fault
last_is kind [] = None
last_is kind (a ∷ []) = cond (kind a.1) None (Some (ArgType a.0))
last_is kind (a ∷ b ∷ args) = last_is kind (b ∷ args)

-- Type of an argument: a timestamp first, and conditions behind it.
abbrev pub time_and_conditions : List Arg → Option Fault
time_and_conditions [] = None
time_and_conditions (a ∷ args) = cond (is_time a.1) (each_is is_condition args) (Some (ArgType a.0))

-- Type of an argument, at a function (manual: "Aggregate functions reference"; which types each takes is this project's own
-- choice).
abbrev pub leaf_types : Leaf → List Arg → Option Fault
leaf_types C.Count args = None
leaf_types C.Sum args = each_is is_number args
leaf_types C.Min args = each_is is_number_or_text args
leaf_types C.Max args = each_is is_number_or_text args
leaf_types C.ArgMin args = each_is is_number_or_text args
leaf_types C.ArgMax args = each_is is_number_or_text args
leaf_types (C.GroupBit op) args = each_is is_number args
leaf_types (C.GroupArray most) args = each_is holds_no_state args
leaf_types C.UniqExact args = each_is holds_no_state args
leaf_types (C.QuantileExact l) args = each_is is_number args
leaf_types (C.WindowFunnel window strict) args = time_and_conditions args
leaf_types (C.SequenceMatch pattern) args = time_and_conditions args
leaf_types C.Retention args = each_is is_condition args

-- Type of an argument, from the outermost link inward: If drops its condition and Resample its key, Array and ForEach
-- pass elements on, Map passes values on. Nothing is asked inside a Merge (manual: "Aggregate function combinators").
abbrev pub arg_types : Chain → List Arg → Option Fault
arg_types (C.Of f) args = leaf_types f args
arg_types (C.If c) args = or_else (last_is is_condition args) (arg_types c (front args))
arg_types (C.Resample start end step c) args = or_else (last_is is_number args) (arg_types c (front args))
arg_types (C.Array c) args = or_else (each_is is_array args) (arg_types c (with_parts element args))
arg_types (C.ForEach c) args = or_else (each_is is_array args) (arg_types c (with_parts element args))
arg_types (C.MapOf c) args = or_else (each_is is_map args) (arg_types c (with_parts map_part args))
arg_types (C.Distinct c) args = or_else (each_is holds_no_state args) (arg_types c args)
arg_types (C.OrNull c) args = arg_types c args
arg_types (C.OrDefault c) args = arg_types c args
arg_types (C.State c) args = arg_types c args
arg_types (C.Merge c) args = None
