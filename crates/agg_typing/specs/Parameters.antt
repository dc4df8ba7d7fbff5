-- The rules on parameters: their kinds and ranges, and the pattern. A chain is read from its outermost link inward:
-- the outermost Resample takes the last three parameters, and the function has those that are left.
use Rattle.std.specs.Prelude.{ℕ, ◌+◌, ◌-◌, ◌*◌, ◌^◌, nat_le, ℤ, pos, neg_ℤ, int_lt, int_le, Bool, true, false, cond, ◌&&◌, List, [], ◌∷◌, length, take, drop, Option, Some, None, Result, Ok, Err, codes, bytes_eq}
use Rattle.agg_terms.specs.declared.words.LeafName.{LeafName}
use Rattle.agg_terms.specs.declared.words.Suffix.{Suffix}
use Rattle.agg_terms.specs.Chains.{Pattern, And, Or, Xor, Leaf, Chain}
use Rattle.agg_terms.specs.Chains as C
use Rattle.agg_terms.specs.Types.{intervals}
use Rattle.agg_typing.specs.Literals.{Literal, Int, Decimal, Text}
use Rattle.agg_typing.specs.Faults.{Fault, ParamCount, BadParam, BadPattern, and_then, check}

-- Bad parameter: parameter i is of its kind and in its range.
abbrev pub param : {X : Type 0} → ℕ → Option X → Result X Fault
param i (Some x) = Ok x
param i None = Err (BadParam i)

-- an integer from low to high
abbrev pub natural : ℕ → ℕ → Literal → Option ℕ
natural low high (Int (pos n)) = cond (nat_le low n && nat_le n high) (Some n) None
natural low high _ = None

-- an integer in the range of Int64
abbrev pub is_int64 : ℤ → Bool
is_int64 z = int_le (neg_ℤ (pos (2 ^ 63))) z && int_lt z (pos (2 ^ 63))

-- an integer in that range
abbrev pub int64 : Literal → Option ℤ
int64 (Int z) = cond (is_int64 z) (Some z) None
int64 _ = None

-- a text
abbrev pub text : Literal → Option (List ℕ)
text (Text bytes) = Some bytes
text _ = None

-- groupArray's max_size: from 1 to 2^32 - 1 (manual: "groupArray")
abbrev pub max_size : Literal → Option ℕ
max_size = natural 1 (2 ^ 32 - 1)

-- windowFunnel's window: from 0 to 2^64 - 1 (manual: "windowFunnel")
abbrev pub window : Literal → Option ℕ
window = natural 0 (2 ^ 64 - 1)

-- windowFunnel's mode: the text strict_increase alone (manual: "windowFunnel"; the other modes are left out)
abbrev pub mode : Literal → Option (Unit {0})
mode (Text bytes) = cond (bytes_eq bytes (codes "strict_increase")) (Some tt) None
mode _ = None

-- quantileExact's level in billionths: 0 or 1, or a decimal of one to nine places from 0 to 1 (manual: "quantileExact"; the
-- number of places is this project's own limit)
abbrev pub level : Literal → Option ℕ
level (Int (pos n)) = cond (nat_le n 1) (Some (n * 10 ^ 9)) None
level (Decimal digits places) =
    cond (nat_le 1 places && (nat_le places 9 && nat_le digits (10 ^ places))) (Some (digits * 10 ^ (9 - places))) None
level _ = None

-- the level of quantileExact without a parameter: one half (manual: "quantileExact")
abbrev pub median : ℕ
median = 5 * 10 ^ 8

-- the three parameters of a Resample (manual: "Aggregate function combinators", -Resample)
pub record Range : Type 0 where
  pub start : ℤ
  pub end : ℤ
  pub step : ℕ

-- how many intervals a Resample has
abbrev pub interval_count : Range → ℕ
interval_count range = intervals range.start range.end range.step

-- the intervals of Resamples in one another, multiplied, are at most so many (this project's own limit)
abbrev pub most_intervals : ℕ
most_intervals = 65536

-- Bad parameter, at a Resample whose start, end and step stand behind m parameters. `further_out` is the product of the
-- intervals of the Resamples around it.
abbrev pub read_range : ℕ → ℕ → List Literal → Result Range Fault
read_range further_out m (start ∷ end ∷ step ∷ []) =
    and_then (param (m + 1) (int64 start)) (λ (from : ℤ).
    and_then (param (m + 2) (int64 end)) (λ (to : ℤ).
    and_then (check (int_lt from to) (BadParam (m + 2))) (λ (_ : Unit {0}).
    and_then (param (m + 3) (natural 1 (2 ^ 64 - 1) step)) (λ (by : ℕ).
    let range : Range = record { start = from; end = to; step = by } in
    and_then (check (nat_le (further_out * interval_count range) most_intervals) (BadParam (m + 3))) (λ (_ : Unit {0}). Ok range)))))
read_range further_out m _ = Err ParamCount

-- how many conditions a pattern may have
abbrev pub most_conditions : ℕ
most_conditions = 32

-- Bad pattern: the conditions of a pattern are the arguments that reach it, but for the time; where their
-- number is none of 1 to 32, it is 32 (this project's own choice).
abbrev pub pattern_conditions : Option ℕ → ℕ
pattern_conditions (Some n) = cond (nat_le 1 (n - 1) && nat_le (n - 1) most_conditions) (n - 1) most_conditions
pattern_conditions None = most_conditions

-- a pattern's text and a number of conditions: the pattern, or the place of the fault
abbrev pub PatternReader : Type 0
PatternReader = List ℕ → ℕ → Result Pattern ℕ

-- Bad pattern: the pattern that was read, or the place in its text
abbrev pub pattern_leaf : Result Pattern ℕ → Result Leaf Fault
pattern_leaf (Ok pattern) = Ok (C.SequenceMatch pattern)
pattern_leaf (Err at) = Err (BadPattern at)

-- Bad parameter, at a function, and bad pattern: the function with its own parameters.
abbrev pub read_leaf : PatternReader → ℕ → LeafName → List Literal → Result Leaf Fault
read_leaf reads n LeafName.Count params = Ok C.Count
read_leaf reads n LeafName.Sum params = Ok C.Sum
read_leaf reads n LeafName.Min params = Ok C.Min
read_leaf reads n LeafName.Max params = Ok C.Max
read_leaf reads n LeafName.ArgMin params = Ok C.ArgMin
read_leaf reads n LeafName.ArgMax params = Ok C.ArgMax
read_leaf reads n LeafName.BitAnd params = Ok (C.GroupBit And)
read_leaf reads n LeafName.BitOr params = Ok (C.GroupBit Or)
read_leaf reads n LeafName.BitXor params = Ok (C.GroupBit Xor)
read_leaf reads n LeafName.GroupArray [] = Ok (C.GroupArray None)
read_leaf reads n LeafName.GroupArray (size ∷ more) =
    and_then (param 1 (max_size size)) (λ (most : ℕ). Ok (C.GroupArray (Some most)))
read_leaf reads n LeafName.UniqExact params = Ok C.UniqExact
read_leaf reads n LeafName.QuantileExact [] = Ok (C.QuantileExact median)
read_leaf reads n LeafName.QuantileExact (at ∷ more) =
    and_then (param 1 (level at)) (λ (billionths : ℕ). Ok (C.QuantileExact billionths))
read_leaf reads n LeafName.WindowFunnel [] = Err ParamCount
read_leaf reads n LeafName.WindowFunnel (length_in_time ∷ []) =
    and_then (param 1 (window length_in_time)) (λ (w : ℕ). Ok (C.WindowFunnel w false))
read_leaf reads n LeafName.WindowFunnel (length_in_time ∷ strict ∷ more) =
    and_then (param 1 (window length_in_time)) (λ (w : ℕ).
    and_then (param 2 (mode strict)) (λ (_ : Unit {0}). Ok (C.WindowFunnel w true)))
read_leaf reads n LeafName.SequenceMatch [] = Err ParamCount
read_leaf reads n LeafName.SequenceMatch (pattern ∷ more) =
    and_then (param 1 (text pattern)) (λ (bytes : List ℕ). pattern_leaf (reads bytes n))
read_leaf reads n LeafName.Retention params = Ok C.Retention

-- a chain under one suffix more; a Resample has its parameters too, and isn't made here
abbrev pub under : Suffix → Chain → Chain
under Suffix.If c = C.If c
under Suffix.Array c = C.Array c
under Suffix.MapOf c = C.MapOf c
under Suffix.ForEach c = C.ForEach c
under Suffix.OrNull c = C.OrNull c
under Suffix.OrDefault c = C.OrDefault c
under Suffix.Distinct c = C.Distinct c
under Suffix.State c = C.State c
under Suffix.Merge c = C.Merge c
under Suffix.Resample c = c

-- Bad parameter, then bad pattern, from the outermost link inward: the chain with its parameters. A pattern stands at the function, so
-- every parameter was judged before it.
abbrev pub read_chain : PatternReader → ℕ → LeafName → ℕ → List Suffix → List Literal → Result Chain Fault
read_chain reads n f further_out [] params = and_then (read_leaf reads n f params) (λ (l : Leaf). Ok (C.Of l))
read_chain reads n f further_out (Suffix.Resample ∷ inner) params =
    and_then (read_range further_out (length params - 3) (drop (length params - 3) params)) (λ (range : Range).
    and_then (read_chain reads n f (further_out * interval_count range) inner (take (length params - 3) params)) (λ (c : Chain).
    Ok (C.Resample range.start range.end range.step c)))
read_chain reads n f further_out (s ∷ inner) params =
    and_then (read_chain reads n f further_out inner params) (λ (c : Chain). Ok (under s c))
