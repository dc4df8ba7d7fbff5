-- Worked names and calls: what is accepted, and the words for the examples of refusals.
use Rattle.std.specs.Prelude.{◌≡◌, refl, ℕ, pos, List, [], ◌∷◌, None, Result, Ok, Err, codes}
use mir.Syntax.{w8}
use Rattle.agg_terms.specs.declared.words.LeafName.{LeafName}
use Rattle.agg_terms.specs.declared.words.Suffix.{Suffix}
use Rattle.agg_terms.specs.Chains.{Ty, Whole, Signed, Str, Arr, MapTy, Nullable, StateOf, tys, Of, If, Array, MapOf, OrNull, Sum, Max, Count, GroupArray, State, Merge}
use Rattle.agg_typing.specs.Literals.{Literal, Int}
use Rattle.agg_typing.specs.Names.{read_name}
use Rattle.agg_typing.specs.Faults.{Fault}
use Rattle.agg_typing.specs.Parameters.{PatternReader}
use Rattle.agg_typing.specs.Typing.{TypedCall, call_of, resolved, resolved_state}

-- a reader that refuses every pattern, at the number of conditions that it was given
abbrev pub no_pattern : PatternReader
no_pattern text n = Err n

abbrev pub u8 : Ty
u8 = Whole 8

abbrev pub int : ℕ → Literal
int n = Int (pos n)

-- start, end and step of a Resample
abbrev pub range : ℕ → ℕ → ℕ → List Literal
range start end step = int start ∷ int end ∷ int step ∷ []

abbrev pub state_of_sum : Ty
state_of_sum = StateOf (Of Sum) (tys (u8 ∷ []))

abbrev pub state_of_max : Ty
state_of_max = StateOf (Of Max) (tys (u8 ∷ []))

abbrev pub call : List ℕ → List Literal → List Ty → Result TypedCall Fault
call = resolved no_pattern

-- names, read from the left; they are case-sensitive
function_alone : read_name (codes "sum") ≡ Ok (record { leaf = LeafName.Sum; suffixes = [] })
function_alone = refl

inside_out :
    read_name (codes "argMinOrNullIf")
    ≡ Ok (record { leaf = LeafName.ArgMin; suffixes = Suffix.OrNull ∷ Suffix.If ∷ [] })
inside_out = refl

no_function : read_name (codes "total") ≡ Err 0
no_function = refl

behind_a_shorter_function : read_name (codes "minute") ≡ Err 3
behind_a_shorter_function = refl

lower_case : read_name (codes "sumif") ≡ Err 3
lower_case = refl

unknown_in_the_middle : read_name (codes "sumIFArray") ≡ Err 3
unknown_in_the_middle = refl

unknown_at_the_end : read_name (codes "sumIff") ≡ Err 5
unknown_at_the_end = refl

-- calls that are accepted
sum_if :
    call (codes "sumIf") [] (u8 ∷ u8 ∷ [])
    ≡ Ok (record { chain = If (Of Sum); args = u8 ∷ u8 ∷ []; result = Whole 64; state = StateOf (If (Of Sum)) (tys (u8 ∷ u8 ∷ [])) })
sum_if = refl

count_of_nothing : call (codes "count") [] [] ≡ Ok (call_of (Of Count) [])
count_of_nothing = refl

count_of_a_state : call (codes "count") [] (state_of_sum ∷ []) ≡ Ok (call_of (Of Count) (state_of_sum ∷ []))
count_of_a_state = refl

array_inside_if :
    call (codes "sumArrayIf") [] (Arr u8 ∷ u8 ∷ [])
    ≡ Ok (call_of (If (Array (Of Sum))) (Arr u8 ∷ u8 ∷ []))
array_inside_if = refl

map_of_arrays :
    call (codes "groupArrayArrayMap") [] (MapTy Str (Arr u8) ∷ [])
    ≡ Ok (call_of (MapOf (Array (Of (GroupArray None)))) (MapTy Str (Arr u8) ∷ []))
map_of_arrays = refl

condition_may_be_null :
    call (codes "sumIf") [] (Signed w8 ∷ Nullable u8 ∷ [])
    ≡ Ok (call_of (If (Of Sum)) (Signed w8 ∷ Nullable u8 ∷ []))
condition_may_be_null = refl

or_null_of_a_list :
    call (codes "groupArrayOrNull") [] (u8 ∷ [])
    ≡ Ok (record { chain = OrNull (Of (GroupArray None)); args = u8 ∷ []; result = Arr u8; state = StateOf (OrNull (Of (GroupArray None))) (tys (u8 ∷ [])) })
or_null_of_a_list = refl

state_is_merged :
    call (codes "sumMerge") [] (state_of_sum ∷ [])
    ≡ Ok (record { chain = Merge (Of Sum); args = state_of_sum ∷ []; result = Whole 64; state = state_of_sum })
state_is_merged = refl

state_of_a_merge :
    call (codes "sumMergeState") [] (state_of_sum ∷ [])
    ≡ Ok (record { chain = State (Merge (Of Sum)); args = state_of_sum ∷ []; result = state_of_sum; state = state_of_sum })
state_of_a_merge = refl

state_type_in_a_text : resolved_state no_pattern (codes "sum") [] (u8 ∷ []) ≡ Ok state_of_sum
state_type_in_a_text = refl
