-- What a legal type is besides: its parameters are numbers of their types, its lists are short.
use Rattle.std.proofs.Common.{◌≡◌, ℕ, ◌+◌, ◌*◌, ◌^◌, ◌<◌, ◌≤◌, ℤ, pos, negsuc, neg_ℤ, int_lt, int_le, Bool, true, false, nat_lt, nat_le, ◌&&◌, length, Some, None, refl, arith}
use Rattle.std.proofs.lemmas.Bool.{leb-true, ltb-true, and_parts}
use Rattle.std.proofs.lemmas.Int.{ints}
use Rattle.std.proofs.lemmas.List.{length-append}
use Rattle.agg_terms.specs.Chains.{Leaf, Chain, Ty, Tys, no_tys, a_ty, tys_list}
use Rattle.agg_terms.specs.Chains as terms
use Rattle.agg_terms.specs.Types.{intervals}
use Rattle.agg_typing.specs.Counts.{takes_count, leaf_greatest, greatest}
use Rattle.agg_typing.specs.Legal.{function_of, suffixes_of, leaf_in_range, is_range, in_range}
use Rattle.agg_typing.specs.Parameters.{is_int64, most_intervals}
use Rattle.agg_typing.specs.Suffixes.{resample_params, fewest_params, most_params}
use Rattle.agg_typing.proofs.Tests.{in_bounds}
use Rattle.type_texts.specs.ChainNames.{leaf_name}
use Rattle.type_shapes.specs.ReadsBack.{leaf_literals, literals_of, FitsInt, FitsLeaf, FitsChain, shapes_in}
use Rattle.shape_types.specs.Countable.{shape_count}

-- ---- parameters in their ranges

fits_int : (z : ℤ) → is_int64 z ≡ true → FitsInt z
fits_int (pos n) h = let two = and_parts (int_le (neg_ℤ (pos (2 ^ 63))) (pos n)) (int_lt (pos n) (pos (2 ^ 63))) h in omega (arith, ints)
fits_int (negsuc n) h = let two = and_parts (int_le (neg_ℤ (pos (2 ^ 63))) (negsuc n)) (int_lt (negsuc n) (pos (2 ^ 63))) h in omega (arith, ints)

fits_leaf : (n : ℕ) (f : Leaf) → leaf_in_range n f ≡ true → FitsLeaf f
fits_leaf n (terms.GroupArray (Some most)) h = ltb-true most (2 ^ 32) (and_parts (nat_le 1 most) (nat_lt most (2 ^ 32)) h).1
fits_leaf n (terms.QuantileExact level) h = let few = leb-true level (10 ^ 9) h in omega (arith, few)
fits_leaf n (terms.WindowFunnel window strict) h = ltb-true window (2 ^ 64) h
fits_leaf n _ h = tt

pub fits_chain : (n o : ℕ) (c : Chain) → in_range n o c ≡ true → FitsChain c
fits_chain n o (terms.Of f) h = fits_leaf n f h
fits_chain n o (terms.If c) h = fits_chain n o c h
fits_chain n o (terms.Array c) h = fits_chain n o c h
fits_chain n o (terms.MapOf c) h = fits_chain n o c h
fits_chain n o (terms.ForEach c) h = fits_chain n o c h
fits_chain n o (terms.OrNull c) h = fits_chain n o c h
fits_chain n o (terms.OrDefault c) h = fits_chain n o c h
fits_chain n o (terms.Distinct c) h = fits_chain n o c h
fits_chain n o (terms.State c) h = fits_chain n o c h
fits_chain n o (terms.Merge c) h = fits_chain n o c h
fits_chain n o (terms.Resample start end step c) h =
    let few : Bool = nat_le (o * intervals start end step) most_intervals in
    let whole = and_parts (is_range o start end step) (in_range n (o * intervals start end step) c) h in
    let a = and_parts (is_int64 start) (is_int64 end && (int_lt start end && (nat_le 1 step && (nat_lt step (2 ^ 64) && few)))) whole.0 in
    let b = and_parts (is_int64 end) (int_lt start end && (nat_le 1 step && (nat_lt step (2 ^ 64) && few))) a.1 in
    let d = and_parts (int_lt start end) (nat_le 1 step && (nat_lt step (2 ^ 64) && few)) b.1 in
    let e = and_parts (nat_le 1 step) (nat_lt step (2 ^ 64) && few) d.1 in
    let f = and_parts (nat_lt step (2 ^ 64)) few e.1 in
    (fits_int start a.0, fits_int end b.0, ltb-true step (2 ^ 64) f.0, fits_chain n (o * intervals start end step) c whole.1)

-- ---- how many

-- a function's parameters are as many as it takes
pub leaf_count : (f : Leaf) → (fewest_params (leaf_name f) ≤ length (leaf_literals f)) × (length (leaf_literals f) ≤ most_params (leaf_name f))
leaf_count terms.Count = (omega arith, omega arith)
leaf_count terms.Sum = (omega arith, omega arith)
leaf_count terms.Min = (omega arith, omega arith)
leaf_count terms.Max = (omega arith, omega arith)
leaf_count terms.ArgMin = (omega arith, omega arith)
leaf_count terms.ArgMax = (omega arith, omega arith)
leaf_count (terms.GroupBit terms.And) = (omega arith, omega arith)
leaf_count (terms.GroupBit terms.Or) = (omega arith, omega arith)
leaf_count (terms.GroupBit terms.Xor) = (omega arith, omega arith)
leaf_count (terms.GroupArray None) = (omega arith, omega arith)
leaf_count (terms.GroupArray (Some most)) = (omega arith, omega arith)
leaf_count terms.UniqExact = (omega arith, omega arith)
leaf_count (terms.QuantileExact level) = (omega arith, omega arith)
leaf_count (terms.WindowFunnel window true) = (omega arith, omega arith)
leaf_count (terms.WindowFunnel window false) = (omega arith, omega arith)
leaf_count (terms.SequenceMatch pattern) = (omega arith, omega arith)
leaf_count terms.Retention = (omega arith, omega arith)

-- a chain's parameters are three for each Resample, and its function's
pub literals_count : (c : Chain) → length (literals_of c) ≡ resample_params (suffixes_of c) + length (leaf_literals (function_of c))
literals_count (terms.Of f) = omega arith
literals_count (terms.If c) = literals_count c
literals_count (terms.Array c) = literals_count c
literals_count (terms.MapOf c) = literals_count c
literals_count (terms.ForEach c) = literals_count c
literals_count (terms.OrNull c) = literals_count c
literals_count (terms.OrDefault c) = literals_count c
literals_count (terms.Distinct c) = literals_count c
literals_count (terms.State c) = literals_count c
literals_count (terms.Merge c) = literals_count c
literals_count (terms.Resample start end step c) = rw length-append (omega (arith, literals_count c))

few_resamples : (c : Chain) → resample_params (suffixes_of c) ≤ 3 * length (suffixes_of c)
few_resamples (terms.Of f) = omega arith
few_resamples (terms.If c) = omega (arith, few_resamples c)
few_resamples (terms.Array c) = omega (arith, few_resamples c)
few_resamples (terms.MapOf c) = omega (arith, few_resamples c)
few_resamples (terms.ForEach c) = omega (arith, few_resamples c)
few_resamples (terms.OrNull c) = omega (arith, few_resamples c)
few_resamples (terms.OrDefault c) = omega (arith, few_resamples c)
few_resamples (terms.Distinct c) = omega (arith, few_resamples c)
few_resamples (terms.State c) = omega (arith, few_resamples c)
few_resamples (terms.Merge c) = omega (arith, few_resamples c)
few_resamples (terms.Resample start end step c) = omega (arith, few_resamples c)

few_leaf : (f : Leaf) → length (leaf_literals f) ≤ 2
few_leaf (terms.GroupArray (Some most)) = omega arith
few_leaf (terms.QuantileExact level) = omega arith
few_leaf (terms.WindowFunnel window true) = omega arith
few_leaf (terms.WindowFunnel window false) = omega arith
few_leaf (terms.SequenceMatch pattern) = omega arith
few_leaf _ = omega arith

-- a chain of at most eight suffixes has few parameters
pub few_literals : (c : Chain) → length (suffixes_of c) ≤ 8 → length (literals_of c) < 2 ^ 32
few_literals c h = omega (arith, literals_count c, few_resamples c, few_leaf (function_of c))

few_of_leaf : (f : Leaf) → leaf_greatest f ≤ 33
few_of_leaf terms.ArgMin = omega arith
few_of_leaf terms.ArgMax = omega arith
few_of_leaf terms.UniqExact = omega arith
few_of_leaf (terms.WindowFunnel window strict) = omega arith
few_of_leaf (terms.SequenceMatch pattern) = omega arith
few_of_leaf terms.Retention = omega arith
few_of_leaf _ = omega arith

-- it takes few arguments
few_arguments : (c : Chain) → greatest c ≤ 33 + length (suffixes_of c)
few_arguments (terms.Of f) = omega (arith, few_of_leaf f)
few_arguments (terms.If c) = omega (arith, few_arguments c)
few_arguments (terms.Array c) = omega (arith, few_arguments c)
few_arguments (terms.MapOf c) = omega arith
few_arguments (terms.ForEach c) = omega (arith, few_arguments c)
few_arguments (terms.OrNull c) = omega (arith, few_arguments c)
few_arguments (terms.OrDefault c) = omega (arith, few_arguments c)
few_arguments (terms.Distinct c) = omega (arith, few_arguments c)
few_arguments (terms.State c) = omega (arith, few_arguments c)
few_arguments (terms.Merge c) = omega arith
few_arguments (terms.Resample start end step c) = omega (arith, few_arguments c)

shapes_count : (ts : Tys) → shape_count (shapes_in ts) ≡ length (tys_list ts)
shapes_count no_tys = refl
shapes_count (a_ty t ts) = omega (arith, shapes_count ts)

-- a legal state type has few argument types
pub few_types : (c : Chain) (ts : Tys) → length (suffixes_of c) ≤ 8 → takes_count c (length (tys_list ts)) ≡ None → shape_count (shapes_in ts) < 2 ^ 32
few_types c ts h counts = let bounds = in_bounds c (length (tys_list ts)) counts in omega (arith, few_arguments c, shapes_count ts, bounds.1)
