-- Two rules broken at once: the earlier rule speaks.
use Rattle.std.specs.Prelude.{◌≡◌, refl, [], ◌∷◌, Err, codes}
use Rattle.agg_terms.specs.Chains.{Str}
use Rattle.agg_typing.specs.Literals.{Text}
use Rattle.agg_typing.specs.Faults.{UnknownName, TooManySuffixes, ArrayOutsideIf, ParamCount, BadParam, BadPattern, ArgCount, ArgType}
use Rattle.agg_typing.proofs.Examples.{u8, int, range, state_of_max, call}

name_before_suffixes :
    call (codes "sumOrNullOrNullOrNullOrNullOrNullOrNullOrNullOrNullOrNullX") [] (u8 ∷ [])
    ≡ Err UnknownName
name_before_suffixes = refl

suffixes_before_array :
    call (codes "sumIfOrNullOrNullOrNullOrNullOrNullOrNullOrNullArray") [] (u8 ∷ [])
    ≡ Err TooManySuffixes
suffixes_before_array = refl

array_before_number_of_parameters : call (codes "sumIfResampleArray") [] (u8 ∷ []) ≡ Err ArrayOutsideIf
array_before_number_of_parameters = refl

number_of_parameters_before_a_bad_one : call (codes "sumResample") (Text (codes "x") ∷ []) (u8 ∷ []) ≡ Err ParamCount
number_of_parameters_before_a_bad_one = refl

parameter_before_pattern :
    call (codes "sequenceMatchResample") (Text (codes "x") ∷ range 0 0 1) (u8 ∷ u8 ∷ u8 ∷ [])
    ≡ Err (BadParam 3)
parameter_before_pattern = refl

pattern_before_number_of_arguments : call (codes "sequenceMatch") (Text (codes "x") ∷ []) [] ≡ Err (BadPattern 32)
pattern_before_number_of_arguments = refl

parameter_before_number_of_arguments : call (codes "groupArray") (int 0 ∷ []) (u8 ∷ u8 ∷ []) ≡ Err (BadParam 1)
parameter_before_number_of_arguments = refl

number_of_arguments_before_type : call (codes "sumIf") [] (Str ∷ []) ≡ Err (ArgCount 2 1)
number_of_arguments_before_type = refl

number_inside_a_map_before_type : call (codes "argMinMapIf") [] (u8 ∷ Str ∷ []) ≡ Err (ArgCount 2 1)
number_inside_a_map_before_type = refl

type_before_state : call (codes "sumMergeIf") [] (state_of_max ∷ Str ∷ []) ≡ Err (ArgType 2)
type_before_state = refl

number_of_arguments_before_state : call (codes "sumMerge") [] (state_of_max ∷ state_of_max ∷ []) ≡ Err (ArgCount 1 2)
number_of_arguments_before_state = refl
