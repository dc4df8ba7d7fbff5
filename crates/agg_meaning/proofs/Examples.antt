-- What the functions mean over small lists of rows.
use Rattle.std.proofs.Common.{◌≡◌, ℕ, pos, negsuc, true, false, List, [], ◌∷◌, map, Some, None, refl}
use Rattle.std.specs.Int.{int_wrap}
use mir.Syntax.{w8}
use Rattle.agg_terms.specs.Values.{Value, Num, Bytes, Nil, list_value}
use Rattle.agg_terms.specs.Chains.{Chain, Count, Sum, Min, Max, ArgMin, ArgMax, GroupArray, UniqExact, QuantileExact, WindowFunnel, SequenceMatch, Retention, GroupBit, And, Or, Xor, Cond, Any, Next, Gap, Time, Above, At, AtOrAbove, Below, BelowOrAt, Of, Ty, Whole, Signed, Str, Arr, Nullable}
use Rattle.agg_terms.specs.Order.{compare}
use Rattle.agg_meaning.specs.Feeds.{opened}
use Rattle.agg_meaning.specs.Suffixes.{meaning}

abbrev pub n : ℕ → Value
n k = Num (pos k)

-- the meaning of rows of arguments
abbrev pub over : Chain → List Ty → List (List Value) → Value
over c ts rows = meaning c ts (map (opened c) rows)

-- over no rows
count_none : over (Of Count) [] [] ≡ n 0
unfolding compare
count_none = refl

sum_none : over (Of Sum) (Signed w8 ∷ []) [] ≡ n 0
unfolding compare
sum_none = refl

min_none : over (Of Min) (Whole 8 ∷ []) [] ≡ n 0
unfolding compare
min_none = refl

max_none : over (Of Max) (Str ∷ []) [] ≡ Bytes []
unfolding compare
max_none = refl

arg_min_none : over (Of ArgMin) (Str ∷ Whole 8 ∷ []) [] ≡ Bytes []
unfolding compare
arg_min_none = refl

arg_max_none : over (Of ArgMax) (Whole 8 ∷ Str ∷ []) [] ≡ n 0
unfolding compare
arg_max_none = refl

group_array_none : over (Of (GroupArray None)) (Whole 8 ∷ []) [] ≡ list_value []
unfolding compare
group_array_none = refl

uniq_none : over (Of UniqExact) (Whole 8 ∷ Str ∷ []) [] ≡ n 0
unfolding compare
uniq_none = refl

quantile_none : over (Of (QuantileExact 500000000)) (Whole 8 ∷ []) [] ≡ n 0
unfolding compare
quantile_none = refl

funnel_none : over (Of (WindowFunnel 10 false)) (Whole 32 ∷ Whole 8 ∷ []) [] ≡ n 0
unfolding compare
funnel_none = refl

match_none : over (Of (SequenceMatch (record { items = Cond 1 ∷ Cond 2 ∷ []; links = Next ∷ [] }))) (Whole 32 ∷ Whole 8 ∷ Whole 8 ∷ []) [] ≡ n 0
unfolding compare
match_none = refl

retention_none : over (Of Retention) (Whole 8 ∷ Whole 8 ∷ []) [] ≡ list_value (n 0 ∷ n 0 ∷ [])
unfolding compare
retention_none = refl

bit_and_none : over (Of (GroupBit And)) (Whole 8 ∷ []) [] ≡ n 255
unfolding compare
bit_and_none = refl

bit_and_none_signed : over (Of (GroupBit And)) (Signed w8 ∷ []) [] ≡ Num (negsuc 0)
unfolding compare
bit_and_none_signed = refl

bit_or_none : over (Of (GroupBit Or)) (Whole 16 ∷ []) [] ≡ n 0
unfolding compare
bit_or_none = refl

bit_xor_none : over (Of (GroupBit Xor)) (Whole 16 ∷ []) [] ≡ n 0
unfolding compare
bit_xor_none = refl

-- over rows of NULL alone
count_null : over (Of Count) (Nullable (Whole 8) ∷ []) ((Nil ∷ []) ∷ (Nil ∷ []) ∷ []) ≡ n 0
unfolding compare
count_null = refl

sum_null : over (Of Sum) (Nullable (Whole 8) ∷ []) ((Nil ∷ []) ∷ (Nil ∷ []) ∷ []) ≡ Nil
unfolding compare
sum_null = refl

min_null : over (Of Min) (Nullable Str ∷ []) ((Nil ∷ []) ∷ []) ≡ Nil
unfolding compare
min_null = refl

max_null : over (Of Max) (Nullable (Whole 8) ∷ []) ((Nil ∷ []) ∷ []) ≡ Nil
unfolding compare
max_null = refl

-- a NULL in either argument drops the row, and a Nullable type of either gives NULL
arg_min_null : over (Of ArgMin) (Str ∷ Nullable (Whole 8) ∷ []) ((Bytes (97 ∷ []) ∷ Nil ∷ []) ∷ []) ≡ Nil
unfolding compare
arg_min_null = refl

arg_max_null : over (Of ArgMax) (Nullable (Whole 8) ∷ Str ∷ []) ((Nil ∷ Bytes (97 ∷ []) ∷ []) ∷ []) ≡ Nil
unfolding compare
arg_max_null = refl

group_array_null : over (Of (GroupArray None)) (Nullable (Whole 8) ∷ []) ((Nil ∷ []) ∷ (Nil ∷ []) ∷ []) ≡ list_value []
unfolding compare
group_array_null = refl

uniq_null : over (Of UniqExact) (Nullable (Whole 8) ∷ Str ∷ []) ((Nil ∷ Bytes (97 ∷ []) ∷ []) ∷ []) ≡ n 0
unfolding compare
uniq_null = refl

quantile_null : over (Of (QuantileExact 500000000)) (Nullable (Whole 8) ∷ []) ((Nil ∷ []) ∷ []) ≡ Nil
unfolding compare
quantile_null = refl

funnel_null : over (Of (WindowFunnel 10 false)) (Whole 32 ∷ Nullable (Whole 8) ∷ []) ((n 5 ∷ Nil ∷ []) ∷ []) ≡ n 0
unfolding compare
funnel_null = refl

match_null : over (Of (SequenceMatch (record { items = Cond 1 ∷ Cond 2 ∷ []; links = Next ∷ [] }))) (Nullable (Whole 32) ∷ Whole 8 ∷ Whole 8 ∷ []) ((Nil ∷ n 1 ∷ n 0 ∷ []) ∷ (n 2 ∷ n 0 ∷ n 1 ∷ []) ∷ []) ≡ n 0
unfolding compare
match_null = refl

retention_null : over (Of Retention) (Nullable (Whole 8) ∷ Whole 8 ∷ []) ((Nil ∷ n 1 ∷ []) ∷ []) ≡ list_value (n 0 ∷ n 0 ∷ [])
unfolding compare
retention_null = refl

bit_and_null : over (Of (GroupBit And)) (Nullable (Whole 8) ∷ []) ((Nil ∷ []) ∷ []) ≡ Nil
unfolding compare
bit_and_null = refl

bit_or_null : over (Of (GroupBit Or)) (Nullable (Whole 8) ∷ []) ((Nil ∷ []) ∷ []) ≡ Nil
unfolding compare
bit_or_null = refl

bit_xor_null : over (Of (GroupBit Xor)) (Nullable (Whole 8) ∷ []) ((Nil ∷ []) ∷ []) ≡ Nil
unfolding compare
bit_xor_null = refl

-- NULL beside a number
sum_beside_null : over (Of Sum) (Nullable (Whole 8) ∷ []) ((Nil ∷ []) ∷ (n 7 ∷ []) ∷ []) ≡ n 7
unfolding compare
sum_beside_null = refl

-- a NULL inside an array is no NULL argument
array_null_counts : over (Of Count) (Arr (Nullable (Whole 8)) ∷ []) ((list_value (Nil ∷ []) ∷ []) ∷ []) ≡ n 1
unfolding compare
array_null_counts = refl

-- numbers
sum_wraps : over (Of Sum) (Whole 64 ∷ []) ((n 18446744073709551615 ∷ []) ∷ (n 2 ∷ []) ∷ []) ≡ n 1
unfolding compare
sum_wraps = refl

sum_below : over (Of Sum) (Signed w8 ∷ []) ((Num (negsuc 0) ∷ []) ∷ (Num (negsuc 4) ∷ []) ∷ []) ≡ Num (negsuc 5)
unfolding int_wrap
sum_below = refl

min_text : over (Of Min) (Str ∷ []) ((Bytes (98 ∷ []) ∷ []) ∷ (Bytes (97 ∷ 98 ∷ []) ∷ []) ∷ (Bytes (97 ∷ 98 ∷ 99 ∷ []) ∷ []) ∷ []) ≡ Bytes (97 ∷ 98 ∷ [])
unfolding compare
min_text = refl

max_number : over (Of Max) (Signed w8 ∷ []) ((Num (negsuc 1) ∷ []) ∷ (n 3 ∷ []) ∷ (Num (negsuc 6) ∷ []) ∷ []) ≡ n 3
unfolding compare
max_number = refl

-- the first row wins a tie
arg_min_first : over (Of ArgMin) (Str ∷ Whole 8 ∷ []) ((Bytes (97 ∷ []) ∷ n 2 ∷ []) ∷ (Bytes (98 ∷ []) ∷ n 1 ∷ []) ∷ (Bytes (99 ∷ []) ∷ n 1 ∷ []) ∷ (Bytes (100 ∷ []) ∷ n 2 ∷ []) ∷ []) ≡ Bytes (98 ∷ [])
unfolding compare
arg_min_first = refl

arg_max_first : over (Of ArgMax) (Str ∷ Whole 8 ∷ []) ((Bytes (97 ∷ []) ∷ n 2 ∷ []) ∷ (Bytes (98 ∷ []) ∷ n 1 ∷ []) ∷ (Bytes (99 ∷ []) ∷ n 1 ∷ []) ∷ (Bytes (100 ∷ []) ∷ n 2 ∷ []) ∷ []) ≡ Bytes (97 ∷ [])
unfolding compare
arg_max_first = refl

group_array_two : over (Of (GroupArray (Some 2))) (Whole 8 ∷ []) ((n 3 ∷ []) ∷ (n 1 ∷ []) ∷ (n 2 ∷ []) ∷ []) ≡ list_value (n 3 ∷ n 1 ∷ [])
unfolding compare
group_array_two = refl

uniq_tuples : over (Of UniqExact) (Whole 8 ∷ Str ∷ []) ((n 1 ∷ Bytes (97 ∷ []) ∷ []) ∷ (n 2 ∷ Bytes (97 ∷ []) ∷ []) ∷ (n 1 ∷ Bytes (97 ∷ []) ∷ []) ∷ []) ≡ n 2
unfolding compare
uniq_tuples = refl

-- the place floor(level * 4) of 1, 2, 3, 4
quantile_half : over (Of (QuantileExact 500000000)) (Whole 8 ∷ []) ((n 4 ∷ []) ∷ (n 1 ∷ []) ∷ (n 3 ∷ []) ∷ (n 2 ∷ []) ∷ []) ≡ n 3
unfolding compare
quantile_half = refl

quantile_last : over (Of (QuantileExact 1000000000)) (Whole 8 ∷ []) ((n 4 ∷ []) ∷ (n 1 ∷ []) ∷ (n 3 ∷ []) ∷ (n 2 ∷ []) ∷ []) ≡ n 4
unfolding compare
quantile_last = refl

quantile_first : over (Of (QuantileExact 1)) (Whole 8 ∷ []) ((n 4 ∷ []) ∷ (n 1 ∷ []) ∷ (n 3 ∷ []) ∷ (n 2 ∷ []) ∷ []) ≡ n 1
unfolding compare
quantile_first = refl

quantile_low : over (Of (QuantileExact 749999999)) (Whole 8 ∷ []) ((n 4 ∷ []) ∷ (n 1 ∷ []) ∷ (n 3 ∷ []) ∷ (n 2 ∷ []) ∷ []) ≡ n 3
unfolding compare
quantile_low = refl

quantile_high : over (Of (QuantileExact 750000000)) (Whole 8 ∷ []) ((n 4 ∷ []) ∷ (n 1 ∷ []) ∷ (n 3 ∷ []) ∷ (n 2 ∷ []) ∷ []) ≡ n 4
unfolding compare
quantile_high = refl

quantile_zero : over (Of (QuantileExact 0)) (Whole 8 ∷ []) ((n 4 ∷ []) ∷ (n 1 ∷ []) ∷ (n 3 ∷ []) ∷ (n 2 ∷ []) ∷ []) ≡ n 1
unfolding compare
quantile_zero = refl

bit_and_two : over (Of (GroupBit And)) (Whole 8 ∷ []) ((n 12 ∷ []) ∷ (n 10 ∷ []) ∷ []) ≡ n 8
unfolding compare
bit_and_two = refl

bit_or_two : over (Of (GroupBit Or)) (Whole 8 ∷ []) ((n 12 ∷ []) ∷ (n 10 ∷ []) ∷ []) ≡ n 14
unfolding compare
bit_or_two = refl

bit_xor_signed : over (Of (GroupBit Xor)) (Signed w8 ∷ []) ((Num (negsuc 0) ∷ []) ∷ (n 1 ∷ []) ∷ []) ≡ Num (negsuc 1)
unfolding compare
bit_xor_signed = refl

-- a funnel: three steps within the window, to its very end
funnel_three : over (Of (WindowFunnel 10 false)) (Whole 32 ∷ Whole 8 ∷ Whole 8 ∷ Whole 8 ∷ []) ((n 100 ∷ n 1 ∷ n 0 ∷ n 0 ∷ []) ∷ (n 105 ∷ n 0 ∷ n 1 ∷ n 0 ∷ []) ∷ (n 110 ∷ n 0 ∷ n 0 ∷ n 1 ∷ []) ∷ []) ≡ n 3
unfolding compare
funnel_three = refl

funnel_past_window : over (Of (WindowFunnel 10 false)) (Whole 32 ∷ Whole 8 ∷ Whole 8 ∷ Whole 8 ∷ []) ((n 100 ∷ n 1 ∷ n 0 ∷ n 0 ∷ []) ∷ (n 105 ∷ n 0 ∷ n 1 ∷ n 0 ∷ []) ∷ (n 111 ∷ n 0 ∷ n 0 ∷ n 1 ∷ []) ∷ []) ≡ n 2
unfolding compare
funnel_past_window = refl

-- at equal times the order of the rows decides
funnel_row_order : over (Of (WindowFunnel 10 false)) (Whole 32 ∷ Whole 8 ∷ Whole 8 ∷ Whole 8 ∷ []) ((n 5 ∷ n 0 ∷ n 1 ∷ n 0 ∷ []) ∷ (n 5 ∷ n 1 ∷ n 0 ∷ n 0 ∷ []) ∷ []) ≡ n 1
unfolding compare
funnel_row_order = refl

funnel_row_order_kept : over (Of (WindowFunnel 10 false)) (Whole 32 ∷ Whole 8 ∷ Whole 8 ∷ []) ((n 5 ∷ n 1 ∷ n 0 ∷ []) ∷ (n 5 ∷ n 0 ∷ n 1 ∷ []) ∷ []) ≡ n 2
unfolding compare
funnel_row_order_kept = refl

-- with rising times an earlier event of step 1 serves
funnel_strict : over (Of (WindowFunnel 5 true)) (Whole 32 ∷ Whole 8 ∷ Whole 8 ∷ []) ((n 1 ∷ n 1 ∷ n 0 ∷ []) ∷ (n 2 ∷ n 1 ∷ n 0 ∷ []) ∷ (n 2 ∷ n 0 ∷ n 1 ∷ []) ∷ []) ≡ n 2
unfolding compare
funnel_strict = refl

funnel_strict_equal : over (Of (WindowFunnel 5 true)) (Whole 32 ∷ Whole 8 ∷ Whole 8 ∷ []) ((n 2 ∷ n 1 ∷ n 0 ∷ []) ∷ (n 2 ∷ n 0 ∷ n 1 ∷ []) ∷ []) ≡ n 1
unfolding compare
funnel_strict_equal = refl

-- one event serves one step
funnel_one_step : over (Of (WindowFunnel 5 false)) (Whole 32 ∷ Whole 8 ∷ Whole 8 ∷ []) ((n 1 ∷ n 1 ∷ n 1 ∷ []) ∷ []) ≡ n 1
unfolding compare
funnel_one_step = refl

-- a later start reaches further
funnel_later_start : over (Of (WindowFunnel 4 false)) (Whole 32 ∷ Whole 8 ∷ Whole 8 ∷ []) ((n 1 ∷ n 1 ∷ n 0 ∷ []) ∷ (n 6 ∷ n 0 ∷ n 1 ∷ []) ∷ (n 3 ∷ n 1 ∷ n 0 ∷ []) ∷ []) ≡ n 2
unfolding compare
funnel_later_start = refl

-- an event is a row that meets a condition of the call
match_past_no_event : over (Of (SequenceMatch (record { items = Cond 1 ∷ Cond 2 ∷ []; links = Next ∷ [] }))) (Whole 32 ∷ Whole 8 ∷ Whole 8 ∷ []) ((n 1 ∷ n 1 ∷ n 0 ∷ []) ∷ (n 2 ∷ n 0 ∷ n 0 ∷ []) ∷ (n 3 ∷ n 0 ∷ n 1 ∷ []) ∷ []) ≡ n 1
unfolding compare
match_past_no_event = refl

match_other_event : over (Of (SequenceMatch (record { items = Cond 1 ∷ Cond 2 ∷ []; links = Next ∷ [] }))) (Whole 32 ∷ Whole 8 ∷ Whole 8 ∷ Whole 8 ∷ []) ((n 1 ∷ n 1 ∷ n 0 ∷ n 0 ∷ []) ∷ (n 2 ∷ n 0 ∷ n 0 ∷ n 1 ∷ []) ∷ (n 3 ∷ n 0 ∷ n 1 ∷ n 0 ∷ []) ∷ []) ≡ n 0
unfolding compare
match_other_event = refl

match_gap : over (Of (SequenceMatch (record { items = Cond 1 ∷ Cond 2 ∷ []; links = Gap ∷ [] }))) (Whole 32 ∷ Whole 8 ∷ Whole 8 ∷ Whole 8 ∷ []) ((n 1 ∷ n 1 ∷ n 0 ∷ n 0 ∷ []) ∷ (n 2 ∷ n 0 ∷ n 0 ∷ n 1 ∷ []) ∷ (n 3 ∷ n 0 ∷ n 1 ∷ n 0 ∷ []) ∷ []) ≡ n 1
unfolding compare
match_gap = refl

match_any : over (Of (SequenceMatch (record { items = Cond 1 ∷ Any ∷ Cond 2 ∷ []; links = Next ∷ Next ∷ [] }))) (Whole 32 ∷ Whole 8 ∷ Whole 8 ∷ Whole 8 ∷ []) ((n 1 ∷ n 1 ∷ n 0 ∷ n 0 ∷ []) ∷ (n 2 ∷ n 0 ∷ n 0 ∷ n 1 ∷ []) ∷ (n 3 ∷ n 0 ∷ n 1 ∷ n 0 ∷ []) ∷ []) ≡ n 1
unfolding compare
match_any = refl

match_time : over (Of (SequenceMatch (record { items = Cond 1 ∷ Cond 2 ∷ []; links = Time Above 1800 ∷ [] }))) (Whole 32 ∷ Whole 8 ∷ Whole 8 ∷ []) ((n 0 ∷ n 1 ∷ n 0 ∷ []) ∷ (n 100 ∷ n 0 ∷ n 1 ∷ []) ∷ (n 2000 ∷ n 0 ∷ n 1 ∷ []) ∷ []) ≡ n 1
unfolding compare
match_time = refl

match_time_no : over (Of (SequenceMatch (record { items = Cond 1 ∷ Cond 2 ∷ []; links = Time At 50 ∷ [] }))) (Whole 32 ∷ Whole 8 ∷ Whole 8 ∷ []) ((n 0 ∷ n 1 ∷ n 0 ∷ []) ∷ (n 100 ∷ n 0 ∷ n 1 ∷ []) ∷ (n 2000 ∷ n 0 ∷ n 1 ∷ []) ∷ []) ≡ n 0
unfolding compare
match_time_no = refl

-- a time is measured from the item before, not from the first
match_neighbours : over (Of (SequenceMatch (record { items = Cond 1 ∷ Cond 2 ∷ Cond 3 ∷ []; links = Time BelowOrAt 1 ∷ Time AtOrAbove 5 ∷ [] }))) (Whole 32 ∷ Whole 8 ∷ Whole 8 ∷ Whole 8 ∷ []) ((n 0 ∷ n 1 ∷ n 0 ∷ n 0 ∷ []) ∷ (n 1 ∷ n 0 ∷ n 1 ∷ n 0 ∷ []) ∷ (n 5 ∷ n 0 ∷ n 0 ∷ n 1 ∷ []) ∷ []) ≡ n 0
unfolding compare
match_neighbours = refl

match_neighbours_yes : over (Of (SequenceMatch (record { items = Cond 1 ∷ Cond 2 ∷ Cond 3 ∷ []; links = Time BelowOrAt 1 ∷ Time AtOrAbove 5 ∷ [] }))) (Whole 32 ∷ Whole 8 ∷ Whole 8 ∷ Whole 8 ∷ []) ((n 0 ∷ n 1 ∷ n 0 ∷ n 0 ∷ []) ∷ (n 1 ∷ n 0 ∷ n 1 ∷ n 0 ∷ []) ∷ (n 6 ∷ n 0 ∷ n 0 ∷ n 1 ∷ []) ∷ []) ≡ n 1
unfolding compare
match_neighbours_yes = refl

match_neighbours_far : over (Of (SequenceMatch (record { items = Cond 1 ∷ Cond 2 ∷ Cond 3 ∷ []; links = Time BelowOrAt 5 ∷ Time BelowOrAt 5 ∷ [] }))) (Whole 32 ∷ Whole 8 ∷ Whole 8 ∷ Whole 8 ∷ []) ((n 0 ∷ n 1 ∷ n 0 ∷ n 0 ∷ []) ∷ (n 5 ∷ n 0 ∷ n 1 ∷ n 0 ∷ []) ∷ (n 10 ∷ n 0 ∷ n 0 ∷ n 1 ∷ []) ∷ []) ≡ n 1
unfolding compare
match_neighbours_far = refl

-- each comparison at its edge
match_above_edge : over (Of (SequenceMatch (record { items = Cond 1 ∷ Cond 2 ∷ []; links = Time Above 5 ∷ [] }))) (Whole 32 ∷ Whole 8 ∷ Whole 8 ∷ []) ((n 0 ∷ n 1 ∷ n 0 ∷ []) ∷ (n 5 ∷ n 0 ∷ n 1 ∷ []) ∷ []) ≡ n 0
unfolding compare
match_above_edge = refl

match_above : over (Of (SequenceMatch (record { items = Cond 1 ∷ Cond 2 ∷ []; links = Time Above 5 ∷ [] }))) (Whole 32 ∷ Whole 8 ∷ Whole 8 ∷ []) ((n 0 ∷ n 1 ∷ n 0 ∷ []) ∷ (n 6 ∷ n 0 ∷ n 1 ∷ []) ∷ []) ≡ n 1
unfolding compare
match_above = refl

match_below_edge : over (Of (SequenceMatch (record { items = Cond 1 ∷ Cond 2 ∷ []; links = Time Below 5 ∷ [] }))) (Whole 32 ∷ Whole 8 ∷ Whole 8 ∷ []) ((n 0 ∷ n 1 ∷ n 0 ∷ []) ∷ (n 5 ∷ n 0 ∷ n 1 ∷ []) ∷ []) ≡ n 0
unfolding compare
match_below_edge = refl

match_below : over (Of (SequenceMatch (record { items = Cond 1 ∷ Cond 2 ∷ []; links = Time Below 5 ∷ [] }))) (Whole 32 ∷ Whole 8 ∷ Whole 8 ∷ []) ((n 0 ∷ n 1 ∷ n 0 ∷ []) ∷ (n 4 ∷ n 0 ∷ n 1 ∷ []) ∷ []) ≡ n 1
unfolding compare
match_below = refl

match_at : over (Of (SequenceMatch (record { items = Cond 1 ∷ Cond 2 ∷ []; links = Time At 5 ∷ [] }))) (Whole 32 ∷ Whole 8 ∷ Whole 8 ∷ []) ((n 0 ∷ n 1 ∷ n 0 ∷ []) ∷ (n 5 ∷ n 0 ∷ n 1 ∷ []) ∷ []) ≡ n 1
unfolding compare
match_at = refl

match_at_least : over (Of (SequenceMatch (record { items = Cond 1 ∷ Cond 2 ∷ []; links = Time AtOrAbove 5 ∷ [] }))) (Whole 32 ∷ Whole 8 ∷ Whole 8 ∷ []) ((n 0 ∷ n 1 ∷ n 0 ∷ []) ∷ (n 5 ∷ n 0 ∷ n 1 ∷ []) ∷ []) ≡ n 1
unfolding compare
match_at_least = refl

match_at_most : over (Of (SequenceMatch (record { items = Cond 1 ∷ Cond 2 ∷ []; links = Time BelowOrAt 5 ∷ [] }))) (Whole 32 ∷ Whole 8 ∷ Whole 8 ∷ []) ((n 0 ∷ n 1 ∷ n 0 ∷ []) ∷ (n 5 ∷ n 0 ∷ n 1 ∷ []) ∷ []) ≡ n 1
unfolding compare
match_at_most = refl

match_past_most : over (Of (SequenceMatch (record { items = Cond 1 ∷ Cond 2 ∷ []; links = Time BelowOrAt 5 ∷ [] }))) (Whole 32 ∷ Whole 8 ∷ Whole 8 ∷ []) ((n 0 ∷ n 1 ∷ n 0 ∷ []) ∷ (n 6 ∷ n 0 ∷ n 1 ∷ []) ∷ []) ≡ n 0
unfolding compare
match_past_most = refl

-- the first condition and another, each met in some row
retention_first : over (Of Retention) (Whole 8 ∷ Whole 8 ∷ Whole 8 ∷ []) ((n 1 ∷ n 0 ∷ n 0 ∷ []) ∷ (n 0 ∷ n 0 ∷ n 1 ∷ []) ∷ []) ≡ list_value (n 1 ∷ n 0 ∷ n 1 ∷ [])
unfolding compare
retention_first = refl

retention_without_first : over (Of Retention) (Whole 8 ∷ Whole 8 ∷ []) ((n 0 ∷ n 1 ∷ []) ∷ []) ≡ list_value (n 0 ∷ n 0 ∷ [])
unfolding compare
retention_without_first = refl

retention_one_row : over (Of Retention) (Whole 8 ∷ Whole 8 ∷ Whole 8 ∷ []) ((n 1 ∷ n 1 ∷ n 0 ∷ []) ∷ []) ≡ list_value (n 1 ∷ n 1 ∷ n 0 ∷ [])
unfolding compare
retention_one_row = refl
