-- What the suffixes mean over small lists of rows, and states that surprise.
use Rattle.std.proofs.Common.{◌≡◌, ℕ, zero, suc, ◌<◌, ◌^◌, ◌%◌, pos, cond, not, arith, negsuc, List, [], ◌∷◌, ◌++◌, length, replicate, Some, None, refl, ap}
use Rattle.std.specs.Prelude.{filter}
use Rattle.agg_terms.specs.Values.{Value, Bytes, Nil, Cell, Empty, Word, keyed_tree, list_value, map_value, slots_tree, values_tree}
use Rattle.agg_terms.specs.Chains.{And, ArgMin, Arr, Array, Count, Distinct, ForEach, GroupArray, GroupBit, If, MapOf, MapTy, Merge, Nullable, Of, OrDefault, OrNull, Resample, Retention, State, Str, Sum, Whole}
use Rattle.agg_terms.specs.Order.{compare}
use Rattle.agg_meaning.specs.Feeds.{no_null}
use Rattle.agg_meaning.specs.Suffixes.{meaning, normal, unfolded}
use Rattle.agg_terms.specs.Lists.{is_empty}
use Rattle.agg_meaning.proofs.Examples.{n, over}

-- -OrDefault and -OrNull: no row reaches the function where all are NULL; the default of a Nullable type is NULL
sum_default_null : over (OrDefault (Of Sum)) (Nullable (Whole 8) ∷ []) ((Nil ∷ []) ∷ (Nil ∷ []) ∷ []) ≡ Nil
unfolding compare
sum_default_null = refl

-- what the condition leaves out reaches no function, on either side of -If
or_null_inside_if : over (If (OrNull (Of Sum))) (Whole 8 ∷ Whole 8 ∷ []) ((n 5 ∷ n 0 ∷ []) ∷ []) ≡ Nil
unfolding compare
or_null_inside_if = refl

or_null_outside_if : over (OrNull (If (Of Sum))) (Whole 8 ∷ Whole 8 ∷ []) ((n 5 ∷ n 0 ∷ []) ∷ []) ≡ Nil
unfolding compare
or_null_outside_if = refl

or_null_reached : over (OrNull (If (Of Sum))) (Whole 8 ∷ Whole 8 ∷ []) ((n 5 ∷ n 0 ∷ []) ∷ (n 0 ∷ n 1 ∷ []) ∷ []) ≡ n 0
unfolding compare
or_null_reached = refl

-- a NULL condition leaves a row out, as 0 does; any other number lets it in
if_null : over (If (Of Count)) (Nullable (Whole 8) ∷ []) ((Nil ∷ []) ∷ (n 0 ∷ []) ∷ (n 1 ∷ []) ∷ (n 9 ∷ []) ∷ []) ≡ n 2
unfolding compare
if_null = refl

-- an array, a map or a state is not made Nullable
or_null_array : over (OrNull (Of (GroupArray None))) (Whole 8 ∷ []) [] ≡ list_value []
unfolding compare
or_null_array = refl

-- -OrDefault gives the default of the result type, also where the function has another value over no rows
bit_and_default : over (OrDefault (Of (GroupBit And))) (Whole 8 ∷ []) [] ≡ n 0
unfolding compare
bit_and_default = refl

retention_default : over (OrDefault (Of Retention)) (Whole 8 ∷ Whole 8 ∷ []) [] ≡ list_value []
unfolding compare
retention_default = refl

each_default : over (OrDefault (ForEach (Of Sum))) (Arr (Nullable (Whole 8)) ∷ []) ((list_value (Nil ∷ []) ∷ []) ∷ []) ≡ list_value []
unfolding compare
each_default = refl

-- -ForEach: a result for each place, as long as the longest row
each_sum : over (ForEach (Of Sum)) (Arr (Whole 8) ∷ []) ((list_value (n 1 ∷ n 2 ∷ []) ∷ []) ∷ (list_value (n 3 ∷ n 4 ∷ n 5 ∷ []) ∷ []) ∷ (list_value (n 6 ∷ n 7 ∷ []) ∷ []) ∷ []) ≡ list_value (n 10 ∷ n 13 ∷ n 5 ∷ [])
unfolding compare
each_sum = refl

each_null : over (ForEach (Of Sum)) (Arr (Nullable (Whole 8)) ∷ []) ((list_value (Nil ∷ n 1 ∷ []) ∷ []) ∷ (list_value (n 2 ∷ []) ∷ []) ∷ []) ≡ list_value (n 2 ∷ n 1 ∷ [])
unfolding compare
each_null = refl

each_null_alone : over (ForEach (Of Sum)) (Arr (Nullable (Whole 8)) ∷ []) ((list_value (Nil ∷ []) ∷ []) ∷ []) ≡ list_value (Nil ∷ [])
unfolding compare
each_null_alone = refl

each_none : over (ForEach (Of Sum)) (Arr (Whole 8) ∷ []) [] ≡ list_value []
unfolding compare
each_none = refl

-- -Array: all elements; of several arrays those below the length of the shortest
array_sum : over (Array (Of Sum)) (Arr (Whole 8) ∷ []) ((list_value (n 1 ∷ n 2 ∷ []) ∷ []) ∷ (list_value [] ∷ []) ∷ (list_value (n 4 ∷ []) ∷ []) ∷ []) ≡ n 7
unfolding compare
array_sum = refl

array_shortest : over (Array (Of ArgMin)) (Arr (Whole 8) ∷ Arr (Whole 8) ∷ []) ((list_value (n 1 ∷ n 2 ∷ n 3 ∷ []) ∷ list_value (n 9 ∷ n 8 ∷ []) ∷ []) ∷ []) ≡ n 2
unfolding compare
array_shortest = refl

-- -Map: by key, ascending, a key that stands twice feeding twice
map_sum : over (MapOf (Of Sum)) (MapTy Str (Whole 8) ∷ []) ((map_value ((Bytes (97 ∷ []), n 1) ∷ (Bytes (98 ∷ []), n 2) ∷ []) ∷ []) ∷ (map_value ((Bytes (98 ∷ []), n 3) ∷ (Bytes (97 ∷ []), n 4) ∷ (Bytes (97 ∷ []), n 5) ∷ []) ∷ []) ∷ []) ≡ map_value ((Bytes (97 ∷ []), n 10) ∷ (Bytes (98 ∷ []), n 5) ∷ [])
unfolding compare
map_sum = refl

map_none : over (MapOf (Of Sum)) (MapTy Str (Whole 8) ∷ []) [] ≡ map_value []
unfolding compare
map_none = refl

-- -Resample: by intervals of a key
resampled : over (Resample (pos 30) (pos 75) 30 (Of (GroupArray None))) (Str ∷ Whole 8 ∷ []) ((Bytes (74 ∷ []) ∷ n 16 ∷ []) ∷ (Bytes (65 ∷ []) ∷ n 30 ∷ []) ∷ (Bytes (77 ∷ []) ∷ n 35 ∷ []) ∷ (Bytes (69 ∷ []) ∷ n 48 ∷ []) ∷ (Bytes (68 ∷ []) ∷ n 62 ∷ []) ∷ (Bytes (66 ∷ []) ∷ n 60 ∷ []) ∷ []) ≡ list_value (list_value (Bytes (65 ∷ []) ∷ Bytes (77 ∷ []) ∷ Bytes (69 ∷ []) ∷ []) ∷ list_value (Bytes (68 ∷ []) ∷ Bytes (66 ∷ []) ∷ []) ∷ [])
unfolding compare
resampled = refl

-- the last interval may be shorter, and a key past it is in none
resample_last_shorter : over (Resample (pos 0) (pos 5) 2 (Of Count)) (Whole 8 ∷ []) ((n 0 ∷ []) ∷ (n 3 ∷ []) ∷ (n 4 ∷ []) ∷ (n 5 ∷ []) ∷ (n 6 ∷ []) ∷ []) ≡ list_value (n 1 ∷ n 1 ∷ n 1 ∷ [])
unfolding compare
resample_last_shorter = refl

-- an interval may begin below the type of the key
resample_below : over (Resample (negsuc 1) (pos 2) 2 (Of Count)) (Whole 8 ∷ []) ((n 0 ∷ []) ∷ (n 1 ∷ []) ∷ []) ≡ list_value (n 0 ∷ n 2 ∷ [])
unfolding compare
resample_below = refl

resample_null : over (Resample (pos 0) (pos 2) 1 (Of Count)) (Nullable (Whole 8) ∷ []) ((Nil ∷ []) ∷ (n 1 ∷ []) ∷ []) ≡ list_value (n 0 ∷ n 1 ∷ [])
unfolding compare
resample_null = refl

-- -Distinct: each different row once, at its first occurrence
distinct_sum : over (Distinct (Of Sum)) (Whole 8 ∷ []) ((n 4 ∷ []) ∷ (n 4 ∷ []) ∷ (n 1 ∷ []) ∷ []) ≡ n 5
unfolding compare
distinct_sum = refl

distinct_order : over (Distinct (Of (GroupArray None))) (Whole 8 ∷ []) ((n 2 ∷ []) ∷ (n 1 ∷ []) ∷ (n 1 ∷ []) ∷ (n 2 ∷ []) ∷ []) ≡ list_value (n 2 ∷ n 1 ∷ [])
unfolding compare
distinct_order = refl

-- -State: the state itself
sum_state : over (State (Of Sum)) (Whole 64 ∷ []) ((n 4 ∷ []) ∷ (n 6 ∷ []) ∷ []) ≡ Cell (Word (pos 10))
unfolding compare
sum_state = refl

sum_state_none : over (State (Of Sum)) (Whole 64 ∷ []) [] ≡ Cell Empty
unfolding compare
sum_state_none = refl

state_default : over (OrDefault (State (Of (GroupBit And)))) (Whole 8 ∷ []) [] ≡ Cell Empty
unfolding compare
state_default = refl

-- -Merge: states in the order of the rows
merged : meaning (Merge (Of (GroupArray (Some 2)))) [] (values_tree (n 1 ∷ []) ∷ values_tree (n 2 ∷ n 3 ∷ []) ∷ []) ≡ list_value (n 1 ∷ n 2 ∷ [])
merged = refl

-- The state of slots Empty and Word 2 of a count for each place: no rows of arrays have it, as an array's places begin
-- at the first, but feeds with holes do.
count_each : normal (ForEach (Of Count)) (Arr (Whole 8) ∷ []) (unfolded (ForEach (Of Count)) (Arr (Whole 8) ∷ []) (slots_tree (Empty ∷ Word (pos 2) ∷ []))) ≡ slots_tree (Empty ∷ Word (pos 2) ∷ [])
count_each = refl

-- An empty slot at the end, and a key that no row reached, stay in a state that is unfolded.
each_end : normal (ForEach (Of Sum)) (Arr (Whole 8) ∷ []) (unfolded (ForEach (Of Sum)) (Arr (Whole 8) ∷ []) (slots_tree (Word (pos 2) ∷ Empty ∷ []))) ≡ slots_tree (Word (pos 2) ∷ Empty ∷ [])
each_end = refl

map_key : normal (MapOf (Of Sum)) (MapTy (Whole 8) (Whole 8) ∷ []) (unfolded (MapOf (Of Sum)) (MapTy (Whole 8) (Whole 8) ∷ []) (keyed_tree ((n 1, Empty) ∷ (n 2, Word (pos 5)) ∷ []))) ≡ keyed_tree ((n 1, Empty) ∷ (n 2, Word (pos 5)) ∷ [])
unfolding compare
map_key = refl

-- A count of 2^64 rows is 0, as that of none, but its state is another, so -OrNull tells them apart after a reload.
merged_none : meaning (OrNull (Merge (Of Count))) [] (Empty ∷ []) ≡ Nil
merged_none = refl

abbrev rows_of_none : ℕ → List (List Value)
rows_of_none k = filter no_null (replicate k [] ++ [])

lived : (k : ℕ) → length (rows_of_none k) ≡ k
lived zero = refl
lived (suc k) = ap suc (lived k)

counts : (k : ℕ) → n (length (rows_of_none k) % 2 ^ 64) ≡ n (k % 2 ^ 64)
counts k = ap (λ j. n (j % 2 ^ 64)) (lived k)

reached : (k : ℕ) → 0 < k → cond (not (is_empty (rows_of_none k))) (n (length (rows_of_none k) % 2 ^ 64)) Nil ≡ n (k % 2 ^ 64)
reached zero l = absurd (omega arith)
reached (suc k) l = counts (suc k)

merged_round : meaning (Merge (Of Count)) [] (Word (pos 0) ∷ []) ≡ n 0
merged_round = counts (2 ^ 64)

merged_round_reached : meaning (OrNull (Merge (Of Count))) [] (Word (pos 0) ∷ []) ≡ n 0
merged_round_reached = reached (2 ^ 64) (omega arith)
