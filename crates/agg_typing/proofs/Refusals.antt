-- Refusals, rule by rule: at the outermost link, at one in the middle and at the innermost.
use Rattle.std.specs.Prelude.{◌≡◌, refl, ◌++◌, negsuc, [], ◌∷◌, replicate, Err, codes}
use Rattle.agg_terms.specs.Chains.{Whole, Str, Arr, MapTy}
use Rattle.agg_typing.specs.Literals.{Int, Decimal, Text}
use Rattle.agg_typing.specs.Faults.{UnknownName, TooManySuffixes, ArrayOutsideIf, ParamCount, BadParam, BadPattern, ArgCount, ArgType, WrongState}
use Rattle.agg_typing.specs.Typing.{resolved_state}
use Rattle.agg_typing.proofs.Examples.{no_pattern, u8, int, range, state_of_sum, state_of_max, call}

-- unknown name
unknown_outermost : call (codes "sumIff") [] (u8 ∷ []) ≡ Err UnknownName
unknown_outermost = refl

unknown_middle : call (codes "sumXIf") [] (u8 ∷ []) ≡ Err UnknownName
unknown_middle = refl

unknown_innermost : call (codes "somIf") [] (u8 ∷ []) ≡ Err UnknownName
unknown_innermost = refl

-- too many suffixes
nine_suffixes :
    call (codes "sumOrNullOrNullOrNullOrNullOrNullOrNullOrNullOrNullOrNull") [] (u8 ∷ [])
    ≡ Err TooManySuffixes
nine_suffixes = refl

eight_suffixes : call (codes "sumOrNullOrNullOrNullOrNullOrNullOrNullOrNullIf") [] (u8 ∷ []) ≡ Err (ArgCount 2 1)
eight_suffixes = refl

-- Array outside If
array_outermost : call (codes "sumIfArray") [] (Arr u8 ∷ Arr u8 ∷ []) ≡ Err ArrayOutsideIf
array_outermost = refl

array_in_the_middle : call (codes "sumIfOrNullArrayDistinct") [] (Arr u8 ∷ Arr u8 ∷ []) ≡ Err ArrayOutsideIf
array_in_the_middle = refl

array_between_ifs : call (codes "sumIfArrayIf") [] (Arr u8 ∷ Arr u8 ∷ u8 ∷ []) ≡ Err ArrayOutsideIf
array_between_ifs = refl

array_outside_a_merge_of_if : call (codes "sumIfMergeArray") [] (Arr state_of_sum ∷ []) ≡ Err ArrayOutsideIf
array_outside_a_merge_of_if = refl

-- number of parameters
resample_with_two : call (codes "sumResample") (int 0 ∷ int 10 ∷ []) (u8 ∷ u8 ∷ []) ≡ Err ParamCount
resample_with_two = refl

resample_with_four : call (codes "sumResample") (int 1 ∷ int 0 ∷ int 10 ∷ int 1 ∷ []) (u8 ∷ u8 ∷ []) ≡ Err ParamCount
resample_with_four = refl

funnel_with_none : call (codes "windowFunnelIf") [] (u8 ∷ u8 ∷ u8 ∷ []) ≡ Err ParamCount
funnel_with_none = refl

funnel_with_three : call (codes "windowFunnel") (int 1 ∷ int 1 ∷ int 1 ∷ []) (u8 ∷ u8 ∷ []) ≡ Err ParamCount
funnel_with_three = refl

pattern_taken_by_the_resample :
    call (codes "sequenceMatchResample") (range 0 10 1) (u8 ∷ u8 ∷ u8 ∷ [])
    ≡ Err ParamCount
pattern_taken_by_the_resample = refl

-- bad parameter: the outermost Resample takes the last three
start_outermost :
    call (codes "groupArrayResampleResample") (int 2 ∷ range 0 10 1 ++ Text (codes "0") ∷ int 10 ∷ int 1 ∷ []) (u8 ∷ u8 ∷ u8 ∷ [])
    ≡ Err (BadParam 5)
start_outermost = refl

end_in_the_middle :
    call (codes "groupArrayResampleResample") (int 2 ∷ range 5 5 1 ++ range 0 10 1) (u8 ∷ u8 ∷ u8 ∷ [])
    ≡ Err (BadParam 3)
end_in_the_middle = refl

size_innermost :
    call (codes "groupArrayResampleResample") (int 0 ∷ range 0 10 1 ++ range 0 10 1) (u8 ∷ u8 ∷ u8 ∷ [])
    ≡ Err (BadParam 1)
size_innermost = refl

outermost_first :
    call (codes "groupArrayResampleResample") (int 0 ∷ range 0 10 0 ++ range 0 10 0) (u8 ∷ u8 ∷ u8 ∷ [])
    ≡ Err (BadParam 7)
outermost_first = refl

left_to_right : call (codes "sumResample") (range 5 5 0) (u8 ∷ u8 ∷ []) ≡ Err (BadParam 2)
left_to_right = refl

no_step : call (codes "sumResample") (range 0 10 0) (u8 ∷ u8 ∷ []) ≡ Err (BadParam 3)
no_step = refl

too_many_intervals :
    call (codes "countResampleResample") (range 0 256 1 ++ range 0 257 1) (u8 ∷ u8 ∷ [])
    ≡ Err (BadParam 3)
too_many_intervals = refl

just_enough_intervals :
    call (codes "countResampleResample") (range 0 256 1 ++ range 0 256 1) (u8 ∷ [])
    ≡ Err (ArgCount 2 1)
just_enough_intervals = refl

start_below_int64 :
    call (codes "sumResample") (Int (negsuc 9223372036854775808) ∷ int 10 ∷ int 1 ∷ []) (u8 ∷ u8 ∷ [])
    ≡ Err (BadParam 1)
start_below_int64 = refl

end_above_int64 : call (codes "sumResample") (range 0 9223372036854775808 1) (u8 ∷ u8 ∷ []) ≡ Err (BadParam 2)
end_above_int64 = refl

level_of_ten_places : call (codes "quantileExact") (Decimal 5000000000 10 ∷ []) (u8 ∷ []) ≡ Err (BadParam 1)
level_of_ten_places = refl

level_above_one : call (codes "quantileExact") (Decimal 11 1 ∷ []) (u8 ∷ []) ≡ Err (BadParam 1)
level_above_one = refl

level_two : call (codes "quantileExact") (int 2 ∷ []) (u8 ∷ []) ≡ Err (BadParam 1)
level_two = refl

other_mode : call (codes "windowFunnel") (int 10 ∷ Text (codes "strict_once") ∷ []) (u8 ∷ u8 ∷ []) ≡ Err (BadParam 2)
other_mode = refl

pattern_is_no_text : call (codes "sequenceMatch") (int 1 ∷ []) (u8 ∷ u8 ∷ []) ≡ Err (BadParam 1)
pattern_is_no_text = refl

-- bad pattern, with the number of conditions that reach it
pattern_alone : call (codes "sequenceMatch") (Text (codes "x") ∷ []) (u8 ∷ u8 ∷ u8 ∷ []) ≡ Err (BadPattern 2)
pattern_alone = refl

pattern_under_if :
    call (codes "sequenceMatchIf") (Text (codes "x") ∷ []) (u8 ∷ u8 ∷ u8 ∷ u8 ∷ [])
    ≡ Err (BadPattern 2)
pattern_under_if = refl

pattern_under_resample :
    call (codes "sequenceMatchResample") (Text (codes "x") ∷ range 0 10 1) (u8 ∷ u8 ∷ u8 ∷ u8 ∷ [])
    ≡ Err (BadPattern 2)
pattern_under_resample = refl

pattern_in_a_map :
    call (codes "sequenceMatchMap") (Text (codes "x") ∷ []) (u8 ∷ u8 ∷ u8 ∷ u8 ∷ [])
    ≡ Err (BadPattern 32)
pattern_in_a_map = refl

pattern_without_conditions : call (codes "sequenceMatch") (Text (codes "x") ∷ []) (u8 ∷ []) ≡ Err (BadPattern 32)
pattern_without_conditions = refl

pattern_with_too_many : call (codes "sequenceMatch") (Text (codes "x") ∷ []) (replicate 34 u8) ≡ Err (BadPattern 32)
pattern_with_too_many = refl

pattern_in_a_merge : call (codes "sequenceMatchMerge") (Text (codes "x") ∷ []) (u8 ∷ u8 ∷ []) ≡ Err (BadPattern 32)
pattern_in_a_merge = refl

-- number of arguments
count_outermost : call (codes "sumMapIf") [] (MapTy Str u8 ∷ []) ≡ Err (ArgCount 2 1)
count_outermost = refl

count_in_the_middle : call (codes "sumMapIfMap") [] (MapTy Str (MapTy Str u8) ∷ []) ≡ Err (ArgCount 2 1)
count_in_the_middle = refl

count_innermost : call (codes "argMinMapMap") [] (MapTy Str (MapTy Str u8) ∷ []) ≡ Err (ArgCount 2 1)
count_innermost = refl

none_to_open : call (codes "countArray") [] [] ≡ Err (ArgCount 1 0)
none_to_open = refl

too_many_to_count : call (codes "uniqExactIf") [] (replicate 34 u8) ≡ Err (ArgCount 33 34)
too_many_to_count = refl

-- type of an argument, by the number that it had in the call
type_outermost : call (codes "argMinArrayIf") [] (Str ∷ u8 ∷ Str ∷ []) ≡ Err (ArgType 3)
type_outermost = refl

type_in_the_middle : call (codes "argMinArrayIf") [] (Arr (Arr u8) ∷ u8 ∷ u8 ∷ []) ≡ Err (ArgType 2)
type_in_the_middle = refl

type_innermost : call (codes "argMinArrayIf") [] (Arr (Arr u8) ∷ Arr u8 ∷ u8 ∷ []) ≡ Err (ArgType 1)
type_innermost = refl

type_in_a_map : call (codes "sumMap") [] (MapTy Str Str ∷ []) ≡ Err (ArgType 1)
type_in_a_map = refl

type_of_a_key : call (codes "sumResample") (range 0 10 1) (u8 ∷ Str ∷ []) ≡ Err (ArgType 2)
type_of_a_key = refl

no_array : call (codes "sumForEach") [] (u8 ∷ []) ≡ Err (ArgType 1)
no_array = refl

state_in_a_distinct : call (codes "countDistinct") [] (Arr state_of_sum ∷ []) ≡ Err (ArgType 1)
state_in_a_distinct = refl

condition_of_a_funnel : call (codes "windowFunnel") (int 1 ∷ []) (u8 ∷ u8 ∷ Whole 16 ∷ []) ≡ Err (ArgType 3)
condition_of_a_funnel = refl

-- wrong state
state_outermost : call (codes "sumMerge") [] (state_of_max ∷ []) ≡ Err (WrongState 1)
state_outermost = refl

state_in_the_middle : call (codes "sumMergeMapIf") [] (MapTy Str state_of_max ∷ u8 ∷ []) ≡ Err (WrongState 1)
state_in_the_middle = refl

state_of_another_chain : call (codes "sumOrNullMergeForEach") [] (Arr state_of_sum ∷ []) ≡ Err (WrongState 1)
state_of_another_chain = refl

no_state : call (codes "sumMerge") [] (u8 ∷ []) ≡ Err (WrongState 1)
no_state = refl

merge_of_a_state : call (codes "sumStateMerge") [] (state_of_sum ∷ []) ≡ Err (WrongState 1)
merge_of_a_state = refl

merge_of_a_merge : call (codes "sumMergeMerge") [] (state_of_sum ∷ []) ≡ Err (WrongState 1)
merge_of_a_merge = refl

state_of_a_state_in_a_text : resolved_state no_pattern (codes "sumState") [] (u8 ∷ []) ≡ Err (WrongState 0)
state_of_a_state_in_a_text = refl
