-- Result types, state types and defaults.
use Rattle.std.proofs.Common.{◌≡◌, pos, false, [], ◌∷◌, None, refl}
use mir.Syntax.{w8, w16, w32, w64}
use Rattle.agg_terms.specs.Values.{Bytes, Cell, Empty, Nil, list_value, map_value, slots_tree}
use Rattle.agg_terms.specs.Chains.{And, Any, ArgMax, ArgMin, Arr, Array, Count, Distinct, ForEach, GroupArray, GroupBit, If, MapOf, MapTy, Max, Merge, Min, Nullable, Of, OrDefault, OrNull, QuantileExact, Resample, Retention, SequenceMatch, Signed, State, StateOf, Str, Sum, UniqExact, Whole, WindowFunnel, Xor, tys}
use Rattle.agg_meaning.specs.Results.{default, result}

-- functions; a Nullable argument makes the result of some of them Nullable
count_type : result (Of Count) [] ≡ Whole 64
count_type = refl

count_null_type : result (Of Count) (Nullable (Whole 8) ∷ []) ≡ Whole 64
count_null_type = refl

sum_type : result (Of Sum) (Whole 8 ∷ []) ≡ Whole 64
sum_type = refl

sum_signed_type : result (Of Sum) (Signed w8 ∷ []) ≡ Signed w64
sum_signed_type = refl

sum_null_type : result (Of Sum) (Nullable (Signed w16) ∷ []) ≡ Nullable (Signed w64)
sum_null_type = refl

min_type : result (Of Min) (Str ∷ []) ≡ Str
min_type = refl

min_null_type : result (Of Min) (Nullable Str ∷ []) ≡ Nullable Str
min_null_type = refl

max_type : result (Of Max) (Signed w32 ∷ []) ≡ Signed w32
max_type = refl

max_null_type : result (Of Max) (Nullable (Whole 8) ∷ []) ≡ Nullable (Whole 8)
max_null_type = refl

arg_min_type : result (Of ArgMin) (Str ∷ Whole 8 ∷ []) ≡ Str
arg_min_type = refl

arg_min_null_type : result (Of ArgMin) (Str ∷ Nullable (Whole 8) ∷ []) ≡ Nullable Str
arg_min_null_type = refl

arg_max_null_type : result (Of ArgMax) (Nullable (Whole 8) ∷ Str ∷ []) ≡ Nullable (Whole 8)
arg_max_null_type = refl

bit_type : result (Of (GroupBit And)) (Whole 16 ∷ []) ≡ Whole 16
bit_type = refl

bit_null_type : result (Of (GroupBit Xor)) (Nullable (Signed w8) ∷ []) ≡ Nullable (Signed w8)
bit_null_type = refl

group_array_type : result (Of (GroupArray None)) (Nullable (Whole 8) ∷ []) ≡ Arr (Whole 8)
group_array_type = refl

group_arrays_type : result (Of (GroupArray None)) (Arr (Nullable (Whole 8)) ∷ []) ≡ Arr (Arr (Nullable (Whole 8)))
group_arrays_type = refl

uniq_type : result (Of UniqExact) (Nullable (Whole 8) ∷ Str ∷ []) ≡ Whole 64
uniq_type = refl

quantile_type : result (Of (QuantileExact 500000000)) (Whole 8 ∷ []) ≡ Whole 8
quantile_type = refl

quantile_null_type : result (Of (QuantileExact 500000000)) (Nullable (Signed w8) ∷ []) ≡ Nullable (Signed w8)
quantile_null_type = refl

funnel_type : result (Of (WindowFunnel 10 false)) (Nullable (Whole 64) ∷ Nullable (Whole 8) ∷ []) ≡ Whole 8
funnel_type = refl

match_type : result (Of (SequenceMatch (record { items = Any ∷ []; links = [] }))) (Nullable (Whole 64) ∷ Nullable (Whole 8) ∷ []) ≡ Whole 8
match_type = refl

retention_type : result (Of Retention) (Nullable (Whole 8) ∷ Whole 8 ∷ []) ≡ Arr (Whole 8)
retention_type = refl

-- -OrNull changes number types and String alone
or_null_number : result (OrNull (Of Sum)) (Whole 8 ∷ []) ≡ Nullable (Whole 64)
or_null_number = refl

or_null_text : result (OrNull (Of Max)) (Str ∷ []) ≡ Nullable Str
or_null_text = refl

or_null_signed : result (OrNull (Of Min)) (Signed w8 ∷ []) ≡ Nullable (Signed w8)
or_null_signed = refl

or_null_twice : result (OrNull (OrNull (Of Sum))) (Whole 8 ∷ []) ≡ Nullable (Whole 64)
or_null_twice = refl

or_null_list : result (OrNull (Of (GroupArray None))) (Whole 8 ∷ []) ≡ Arr (Whole 8)
or_null_list = refl

or_null_map : result (OrNull (MapOf (Of Sum))) (MapTy Str (Whole 8) ∷ []) ≡ MapTy Str (Whole 64)
or_null_map = refl

or_null_state : result (OrNull (State (Of Sum))) (Whole 8 ∷ []) ≡ StateOf (Of Sum) (tys (Whole 8 ∷ []))
or_null_state = refl

-- the other suffixes
or_default_type : result (OrDefault (Of Sum)) (Nullable (Whole 8) ∷ []) ≡ Nullable (Whole 64)
or_default_type = refl

if_type : result (If (Of Sum)) (Signed w8 ∷ Nullable (Whole 8) ∷ []) ≡ Signed w64
if_type = refl

array_type : result (Array (Of Min)) (Arr Str ∷ []) ≡ Str
array_type = refl

for_each_type : result (ForEach (Of Sum)) (Arr (Nullable (Whole 8)) ∷ []) ≡ Arr (Nullable (Whole 64))
for_each_type = refl

map_type : result (MapOf (Of Count)) (MapTy (Signed w8) Str ∷ []) ≡ MapTy (Signed w8) (Whole 64)
map_type = refl

distinct_type : result (Distinct (Of Sum)) (Whole 8 ∷ []) ≡ Whole 64
distinct_type = refl

resample_type : result (Resample (pos 0) (pos 4) 2 (Of Sum)) (Signed w8 ∷ Nullable (Whole 8) ∷ []) ≡ Arr (Signed w64)
resample_type = refl

state_type_of : result (State (If (Of Sum))) (Whole 8 ∷ Whole 8 ∷ []) ≡ StateOf (If (Of Sum)) (tys (Whole 8 ∷ Whole 8 ∷ []))
state_type_of = refl

merge_type : result (Merge (Of Sum)) (StateOf (Of Sum) (tys (Signed w8 ∷ [])) ∷ []) ≡ Signed w64
merge_type = refl

-- the states of -Merge and of -State are those of the inner chain
merge_state_type : result (State (Merge (Of Sum))) (StateOf (Of Sum) (tys (Signed w8 ∷ [])) ∷ []) ≡ StateOf (Of Sum) (tys (Signed w8 ∷ []))
merge_state_type = refl

state_of_state_type : result (State (State (Of Count))) [] ≡ StateOf (Of Count) (tys [])
state_of_state_type = refl

-- defaults
default_text : default Str ≡ Bytes []
default_text = refl

default_null : default (Nullable (Whole 8)) ≡ Nil
default_null = refl

default_array : default (Arr Str) ≡ list_value []
default_array = refl

default_map : default (MapTy Str Str) ≡ map_value []
default_map = refl

default_state : default (StateOf (Resample (pos 0) (pos 3) 2 (Of Count)) (tys (Whole 8 ∷ []))) ≡ Cell (slots_tree (Empty ∷ Empty ∷ []))
default_state = refl
