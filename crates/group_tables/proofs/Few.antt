-- A legal call has few arguments.
use Rattle.std.proofs.Common.{◌≡◌, ◌+◌, ◌≤◌, Bool, true, false, cond, nat_lt, List, length, refl, arith}
use Rattle.std.specs.Prelude.{Option, None, Some, is_none}
use Rattle.std.proofs.lemmas.Bool.{and_parts, leb-true, ltb-false}
use Rattle.agg_terms.specs.Chains as C
use Rattle.agg_terms.specs.Chains.{Chain, Leaf, Ty}
use Rattle.agg_typing.specs.Counts.{arg_count, greatest, inside_maps, leaf_greatest, least, takes_count}
use Rattle.agg_typing.specs.Faults.{ArgCount, Fault, or_else}
use Rattle.agg_typing.specs.Legal.{is_formed, is_legal, is_typed, suffixes_of}
use Rattle.agg_typing.specs.Suffixes.{has_few_suffixes, most_suffixes}

leaf-most : (f : Leaf) → leaf_greatest f ≤ 33
leaf-most C.ArgMin = omega arith
leaf-most C.ArgMax = omega arith
leaf-most C.UniqExact = omega arith
leaf-most (C.WindowFunnel window strict) = omega arith
leaf-most (C.SequenceMatch pattern) = omega arith
leaf-most C.Retention = omega arith
leaf-most C.Count = omega arith
leaf-most C.Sum = omega arith
leaf-most C.Min = omega arith
leaf-most C.Max = omega arith
leaf-most (C.GroupArray most) = omega arith
leaf-most (C.QuantileExact level) = omega arith
leaf-most (C.GroupBit op) = omega arith

most : (c : Chain) → greatest c ≤ 33 + length (suffixes_of c)
most (C.Of f) = omega (arith, leaf-most f)
most (C.If c) = omega (arith, most c)
most (C.Array c) = omega (arith, most c)
most (C.MapOf c) = omega arith
most (C.ForEach c) = omega (arith, most c)
most (C.OrNull c) = omega (arith, most c)
most (C.OrDefault c) = omega (arith, most c)
most (C.Distinct c) = omega (arith, most c)
most (C.State c) = omega (arith, most c)
most (C.Merge c) = omega arith
most (C.Resample start end step c) = omega (arith, most c)

no-fault : (a b : Option Fault) → is_none (or_else a b) ≡ true → is_none a ≡ true
no-fault None b e = refl
no-fault (Some x) b e = e

in-count : (low high : Bool) (x y : Fault) → is_none (cond low (Some x) (cond high (Some y) None)) ≡ true → high ≡ false
in-count true high x y e = absurd cc
in-count false true x y e = absurd cc
in-count false false x y e = refl

pub few-arguments : (c : Chain) (ts : List Ty) → is_legal c ts ≡ true → length ts ≤ 64
few-arguments c ts legal =
    let n = length ts in
    let parts = and_parts (is_formed c n) (is_typed c ts) legal in
    let formed = and_parts (has_few_suffixes (suffixes_of c)) _ parts.0 in
    let typed = and_parts (is_none (arg_count c n)) _ parts.1 in
    let high : nat_lt (greatest c) n ≡ false =
    in-count (nat_lt n (least c)) (nat_lt (greatest c) n) (ArgCount (least c) n) (ArgCount (greatest c) n) (no-fault (takes_count c n) (inside_maps c) typed.0) in
    let bound : n ≤ greatest c = ltb-false (greatest c) n high in
    let suffixes : length (suffixes_of c) ≤ most_suffixes = leb-true (length (suffixes_of c)) most_suffixes formed.0 in
    omega (arith, bound, most c, suffixes)
