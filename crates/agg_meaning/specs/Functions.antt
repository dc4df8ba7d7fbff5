-- The functions, each over the list of its rows that count: what it means, its state, and the rows that a state
-- unfolds to. Manual: "Aggregate functions reference" and "Parametric aggregate functions", under each function's name.
use Rattle.std.specs.Prelude.{ℕ, zero, suc, ◌*◌, ◌/◌, ◌%◌, ◌^◌, ℤ, pos, ◌+ℤ◌, nat_abs, nat_eq, Bool, cond, List, [], ◌∷◌, map, length, get_or, take, replicate, Option, Some, None, ◌-◌, unsigned_abs, bit_and, bit_or, bit_xor}
use Rattle.std.specs.Ordering.{is_lt, is_gt}
use Rattle.std.specs.Int.{int_wrap, int_rem_euclid, cast_signed}
use mir.Val.{bits}
use mir.Syntax.{w64}
use Rattle.agg_terms.specs.Chains.{And, ArgMax, ArgMin, BitOp, Count, GroupArray, GroupBit, Leaf, Max, Min, Nullable, Or, QuantileExact, Retention, SequenceMatch, Signed, Sum, Ty, UniqExact, Whole, WindowFunnel, Xor}
use Rattle.agg_terms.specs.Values.{Empty, Events, Nil, Num, Tree, Tuple, Value, Word, list_value, rows_of, rows_tree, tuple_of, values_of, values_tree}
use Rattle.agg_terms.specs.Types.{any_null, conditions, first_type, is_signed}
use Rattle.agg_terms.specs.Order.{ascending, best, compare, compare_rows, different}
use Rattle.agg_meaning.specs.Events.{bit, bools, event_row, events, flag, funnel_level, is_matched, mask_of, met_set, retained}
use Rattle.agg_terms.specs.Lists.{built, is_empty}
use Rattle.agg_terms.specs.Trees.{one_tree, pair_tree}

-- an argument of a row, counted from 0
abbrev pub arg : ℕ → List Value → Value
arg i vs = get_or vs i Nil

abbrev pub the_arg : List Value → Value
the_arg r = arg 0 r

abbrev pub arg_val : List Value → Value × Value
arg_val r = (arg 0 r, arg 1 r)

-- the number that a value is
abbrev pub number : Value → ℤ
number (Num n) = n
number _ = pos 0

-- count: how many rows, modulo 2^64 (this project's own choice)
abbrev pub counted : List (List Value) → ℤ
counted rows = pos (length rows % 2 ^ 64)

abbrev pub sum_of : List ℤ → ℤ
sum_of xs = built (λ x s. x +ℤ s) (pos 0) xs

-- a number modulo 2^64, in Int64 or in UInt64
abbrev pub wrapped : Bool → ℤ → ℤ
wrapped signed z = cond signed (int_wrap w64 z) (int_rem_euclid z (pos (2 ^ 64)))

-- sum: the sum, modulo 2^64 (this project's own choice)
abbrev pub total : List Ty → List (List Value) → ℤ
total ts rows = wrapped (is_signed (first_type ts)) (sum_of (map (λ r. number (arg 0 r)) rows))

-- min and max ask for the least and the greatest value, argMin and argMax for those of the second argument
abbrev pub lower : Value → Value → Bool
lower a b = is_lt (compare a b)

abbrev pub higher : Value → Value → Bool
higher a b = is_gt (compare a b)

abbrev pub lower_second : Value × Value → Value × Value → Bool
lower_second a b = lower a.1 b.1

abbrev pub higher_second : Value × Value → Value × Value → Bool
higher_second a b = higher a.1 b.1

-- groupArray: the first of them, where there is a greatest number
abbrev pub at_most : Option ℕ → List Value → List Value
at_most None vs = vs
at_most (Some n) vs = take n vs

-- quantileExact: the place floor(level * length), the level in billionths; the last place at level 1
abbrev pub quantile_place : ℕ → ℕ → ℕ
quantile_place level n = cond (nat_eq level (10 ^ 9)) (last_place n) ((level * n) / 10 ^ 9)
  where
    last_place : ℕ → ℕ
    last_place zero = 0
    last_place (suc m) = m

-- groupBitAnd, groupBitOr and groupBitXor: how many bits a type of numbers has,
abbrev pub bits_in : Ty → ℕ
bits_in (Whole n) = n
bits_in (Signed w) = bits w
bits_in (Nullable t) = bits_in t
bits_in _ = 0

-- the n bits of a number, a signed one in two's complement,
abbrev pub residue : ℕ → ℤ → ℕ
residue n z = unsigned_abs (int_rem_euclid z (pos (2 ^ n)))

-- and the number of a type that has these bits
abbrev pub from_bits_in : Ty → ℕ → ℤ
from_bits_in (Signed w) b = cast_signed w b
from_bits_in (Nullable t) b = from_bits_in t b
from_bits_in _ b = pos b

abbrev pub bit_op : BitOp → ℕ → ℕ → ℕ
bit_op And a b = bit_and a b
bit_op Or a b = bit_or a b
bit_op Xor a b = bit_xor a b

-- numbers combined, none of none
abbrev pub with_next : (ℕ → ℕ → ℕ) → ℕ → Option ℕ → ℕ
with_next op a None = a
with_next op a (Some b) = op a b

abbrev pub folded : (ℕ → ℕ → ℕ) → List ℕ → Option ℕ
folded op [] = None
folded op (a ∷ ns) = Some (with_next op a (folded op ns))

abbrev pub bits_of_rows : Ty → List (List Value) → List ℕ
bits_of_rows t L = map (λ r. residue (bits_in t) (number (arg 0 r))) L

-- over no rows: all ones of the type for groupBitAnd, else 0
abbrev pub bits_of_none : BitOp → ℕ → ℕ
bits_of_none And n = 2 ^ n - 1
bits_of_none _ n = 0

abbrev pub bit_value : Ty → Value → Option ℕ → Value
bit_value t nothing None = nothing
bit_value t nothing (Some b) = Num (from_bits_in t b)

-- a value, or what stands for none
abbrev pub or_nothing : Value → Option Value → Value
or_nothing v None = v
or_nothing v (Some w) = w

abbrev pub option_first : Option (Value × Value) → Option Value
option_first None = None
option_first (Some p) = Some p.0

-- What a function means over its rows. `nothing` is the default of its result type: NULL where that is Nullable,
-- else 0, the empty string or the empty array (which of them over no rows is this project's own choice).
abbrev pub leaf_meaning : Leaf → List Ty → Value → List (List Value) → Value
leaf_meaning Count ts nothing L = Num (counted L)
leaf_meaning Sum ts nothing L = cond (is_empty L) nothing (Num (total ts L))
leaf_meaning Min ts nothing L = or_nothing nothing (best lower (map the_arg L))
leaf_meaning Max ts nothing L = or_nothing nothing (best higher (map the_arg L))
leaf_meaning ArgMin ts nothing L = or_nothing nothing (option_first (best lower_second (map arg_val L)))
leaf_meaning ArgMax ts nothing L = or_nothing nothing (option_first (best higher_second (map arg_val L)))
leaf_meaning (GroupArray most) ts nothing L = list_value (at_most most (map the_arg L))
leaf_meaning UniqExact ts nothing L = Num (pos (length (different compare_rows L) % 2 ^ 64))
leaf_meaning (QuantileExact level) ts nothing L =
    cond (is_empty L) nothing (arg (quantile_place level (length L)) (ascending compare (map the_arg L)))
leaf_meaning (WindowFunnel window strict) ts nothing L = Num (pos (funnel_level window strict (events (conditions ts) L)))
leaf_meaning (SequenceMatch pattern) ts nothing L = Num (pos (bit (is_matched pattern (events (conditions ts) L))))
leaf_meaning Retention ts nothing L = list_value (retained (met_set (length ts) L))
leaf_meaning (GroupBit op) ts nothing L =
    bit_value (first_type ts)
    (cond (any_null ts) nothing (Num (from_bits_in (first_type ts) (bits_of_none op (bits_in (first_type ts))))))
    (folded (bit_op op) (bits_of_rows (first_type ts) L))

-- a tree, or Empty of no rows
abbrev pub unless_none : {X : Type 0} → List X → Tree → Tree
unless_none [] t = Empty
unless_none (x ∷ xs) t = t

abbrev pub bit_tree : Ty → Option ℕ → Tree
bit_tree t None = Empty
bit_tree t (Some b) = Word (from_bits_in t b)

-- The state of a function after its rows: its normal form, which holds what the meaning of more rows can ask for.
-- That no rows and rows of no effect differ (Empty and Word 0 of a sum) is this project's own choice, as all states are.
abbrev pub leaf_normal : Leaf → List Ty → List (List Value) → Tree
leaf_normal Count ts L = unless_none L (Word (counted L))
leaf_normal Sum ts L = unless_none L (Word (total ts L))
leaf_normal Min ts L = one_tree (best lower (map the_arg L))
leaf_normal Max ts L = one_tree (best higher (map the_arg L))
leaf_normal ArgMin ts L = pair_tree (best lower_second (map arg_val L))
leaf_normal ArgMax ts L = pair_tree (best higher_second (map arg_val L))
leaf_normal (GroupArray most) ts L = values_tree (at_most most (map the_arg L))
leaf_normal UniqExact ts L = rows_tree (different compare_rows L)
leaf_normal (QuantileExact level) ts L = values_tree (ascending compare (map the_arg L))
leaf_normal (WindowFunnel window strict) ts L = unless_none L (Events (events (conditions ts) L))
leaf_normal (SequenceMatch pattern) ts L = unless_none L (Events (events (conditions ts) L))
leaf_normal Retention ts L = unless_none L (Word (pos (mask_of (met_set (length ts) L))))
leaf_normal (GroupBit op) ts L = bit_tree (first_type ts) (folded (bit_op op) (bits_of_rows (first_type ts) L))

abbrev pub single : Value → List Value
single v = v ∷ []

-- how many rows a count stands for: the word 0 was reached by 2^64 rows
abbrev pub rounds : ℕ → ℕ
rounds zero = 2 ^ 64
rounds (suc n) = suc n

-- as many rows as counted, each of the defaults of the argument types
abbrev pub count_feeds : List Value → Tree → List (List Value)
count_feeds row (Word w) = replicate (rounds (nat_abs w)) row
count_feeds row _ = []

-- the one row of a word, or of a tuple
abbrev pub one_feed : Tree → List (List Value)
one_feed (Word w) = (Num w ∷ []) ∷ []
one_feed (Tuple vs) = tuple_of (Tuple vs) ∷ []
one_feed _ = []

-- a row for each event; where there were rows but no event, a row of time 0 that meets no condition
abbrev pub event_feeds : ℕ → Tree → List (List Value)
event_feeds n (Events []) = event_row n (record { time = 0; mask = 0 }) ∷ []
event_feeds n (Events (e ∷ es)) = map (event_row n) (e ∷ es)
event_feeds n _ = []

-- the one row that meets the conditions of a set
abbrev pub mask_feeds : ℕ → Tree → List (List Value)
mask_feeds n (Word z) = map flag (bools n (nat_abs z)) ∷ []
mask_feeds n _ = []

-- The rows that a function's state unfolds to; `row` has the defaults of the argument types, taken without Nullable.
abbrev pub leaf_feeds : Leaf → List Value → Tree → List (List Value)
leaf_feeds Count row t = count_feeds row t
leaf_feeds (GroupArray most) row t = map single (values_of t)
leaf_feeds UniqExact row t = rows_of t
leaf_feeds (QuantileExact level) row t = map single (values_of t)
leaf_feeds (WindowFunnel window strict) row t = event_feeds (conditions row) t
leaf_feeds (SequenceMatch pattern) row t = event_feeds (conditions row) t
leaf_feeds Retention row t = mask_feeds (length row) t
leaf_feeds _ row t = one_feed t
