-- The rule on the number of arguments.
use Rattle.std.specs.Prelude.{ℕ, ◌+◌, max, nat_lt, cond, Option, Some, None}
use Rattle.agg_terms.specs.Chains.{Leaf, Chain}
use Rattle.agg_terms.specs.Chains as C
use Rattle.agg_typing.specs.Faults.{Fault, ArgCount, or_else}

-- how few arguments a function takes (manual: "Aggregate functions reference", under each function's name)
abbrev pub leaf_least : Leaf → ℕ
leaf_least C.Count = 0
leaf_least C.ArgMin = 2
leaf_least C.ArgMax = 2
leaf_least (C.WindowFunnel window strict) = 2
leaf_least (C.SequenceMatch pattern) = 2
leaf_least _ = 1

-- how many arguments a function takes at most (manual: the same; that conditions are at most 32 is this project's own limit)
abbrev pub leaf_greatest : Leaf → ℕ
leaf_greatest C.ArgMin = 2
leaf_greatest C.ArgMax = 2
leaf_greatest C.UniqExact = 32
leaf_greatest (C.WindowFunnel window strict) = 33
leaf_greatest (C.SequenceMatch pattern) = 33
leaf_greatest C.Retention = 32
leaf_greatest _ = 1

-- How few arguments a chain takes: If and Resample one more than what is inside, a Map and a Merge one; what opens
-- arrays or compares rows takes one or more (manual: "Aggregate function combinators").
abbrev pub least : Chain → ℕ
least (C.Of f) = leaf_least f
least (C.If c) = least c + 1
least (C.Resample start end step c) = least c + 1
least (C.Array c) = max 1 (least c)
least (C.ForEach c) = max 1 (least c)
least (C.Distinct c) = max 1 (least c)
least (C.OrNull c) = least c
least (C.OrDefault c) = least c
least (C.State c) = least c
least (C.MapOf c) = 1
least (C.Merge c) = 1

-- how many arguments a chain takes at most
abbrev pub greatest : Chain → ℕ
greatest (C.Of f) = leaf_greatest f
greatest (C.If c) = greatest c + 1
greatest (C.Resample start end step c) = greatest c + 1
greatest (C.Array c) = greatest c
greatest (C.ForEach c) = greatest c
greatest (C.Distinct c) = greatest c
greatest (C.OrNull c) = greatest c
greatest (C.OrDefault c) = greatest c
greatest (C.State c) = greatest c
greatest (C.MapOf c) = 1
greatest (C.Merge c) = 1

-- Number of arguments: the bound that n breaks, the least one first.
abbrev pub takes_count : Chain → ℕ → Option Fault
takes_count c n =
    cond (nat_lt n (least c)) (Some (ArgCount (least c) n)) (cond (nat_lt (greatest c) n) (Some (ArgCount (greatest c) n)) None)

-- Inside each Map, from the outside, one argument reaches the inner chain. Nothing is asked inside a Merge.
abbrev pub inside_maps : Chain → Option Fault
inside_maps (C.Of f) = None
inside_maps (C.If c) = inside_maps c
inside_maps (C.Resample start end step c) = inside_maps c
inside_maps (C.Array c) = inside_maps c
inside_maps (C.ForEach c) = inside_maps c
inside_maps (C.Distinct c) = inside_maps c
inside_maps (C.OrNull c) = inside_maps c
inside_maps (C.OrDefault c) = inside_maps c
inside_maps (C.State c) = inside_maps c
inside_maps (C.MapOf c) = or_else (takes_count c 1) (inside_maps c)
inside_maps (C.Merge c) = None

-- Number of arguments: first the whole chain against those of the call, then what is inside each Map (this project's own choice).
abbrev pub arg_count : Chain → ℕ → Option Fault
arg_count c n = or_else (takes_count c n) (inside_maps c)
