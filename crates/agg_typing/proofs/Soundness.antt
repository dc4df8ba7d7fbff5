-- A legal chain is sound, and its types are those that the laws of states need.
use Rattle.std.proofs.Common.{◌≡◌, refl, subst, ℕ, zero, suc, ◌*◌, ◌^◌, ◌≤◌, ℤ, pos, neg_ℤ, ◌<ℤ◌, int_lt, int_le, FitsSigned, true, List, length, Some, None, arith}
use Rattle.std.proofs.lemmas.Int.{ints}
use Rattle.std.proofs.lemmas.Bool.{leb-true}
use mir.Syntax.{w64}
use Rattle.agg_terms.specs.Chains.{Chain, Leaf, Ty}
use Rattle.agg_terms.specs.Chains as C
use Rattle.agg_terms.specs.Lists.{Each, numbered}
use Rattle.agg_terms.specs.Trees.{IsStateless}
use Rattle.agg_terms.specs.Types.{intervals, inward}
use Rattle.agg_meaning.specs.Lawful.{IsSound, IsTyped, TakesSome, TakesTypes}
use Rattle.agg_meaning.specs.Laws.{IsLegal}
use Rattle.agg_typing.specs.Suffixes.{arguments_reaching}
use Rattle.agg_typing.specs.Parameters.{is_int64, pattern_conditions}
use Rattle.agg_typing.specs.Kinds.{arg_types, each_is, holds_no_state}
use Rattle.agg_typing.specs.Legal.{suffixes_of, leaf_in_range, is_range, in_range, is_formed, is_typed}
use Rattle.agg_typing.specs.Promises.{IsLegalCall}
use Rattle.agg_typing.proofs.Same.{both}
use Rattle.agg_typing.proofs.Tests.{types, or_none, each, stateless, leaf_typed}
use Rattle.agg_typing.proofs.Reaching.{types-numbered}
use Rattle.agg_typing.proofs.Formed.{Formed, formed, proper}
use Rattle.agg_typing.proofs.Inward.{Passes, legal_passes, inner_is_legal}

signed : (z : ℤ) → is_int64 z ≡ true → FitsSigned w64 z
signed z h =
    let two = both (int_le (neg_ℤ (pos (2 ^ 63))) z) (int_lt z (pos (2 ^ 63))) h in
    omega (arith, ints)

takes_some : (n : ℕ) (f : Leaf) → leaf_in_range n f ≡ true → TakesSome f
takes_some n (C.GroupArray (Some zero)) h = cc h
takes_some n (C.GroupArray (Some (suc m))) h = tt
takes_some n (C.GroupArray None) h = tt
takes_some n _ h = tt

pub sound : (n further_out : ℕ) (c : Chain) → in_range n further_out c ≡ true → IsSound c
sound n further_out (C.Of f) h = takes_some n f h
sound n further_out (C.If c) h = sound n further_out c h
sound n further_out (C.Array c) h = sound n further_out c h
sound n further_out (C.MapOf c) h = sound n further_out c h
sound n further_out (C.ForEach c) h = sound n further_out c h
sound n further_out (C.OrNull c) h = sound n further_out c h
sound n further_out (C.OrDefault c) h = sound n further_out c h
sound n further_out (C.Distinct c) h = sound n further_out c h
sound n further_out (C.State c) h = sound n further_out c h
sound n further_out (C.Merge c) h = sound n further_out c h
sound n further_out (C.Resample start end step c) h =
    let size : ℕ = further_out * intervals start end step in
    let a = both (is_range further_out start end step) (in_range n size c) h in
    let p = proper further_out start end step a.0 in
    let less : start <ℤ end = omega (arith, ints, p.rising) in
    let one : 1 ≤ step = leb-true 1 step p.stepping in
    (less, omega (arith, one), sound n size c a.1, signed start p.low, signed end p.high)

-- the types of a legal chain over legal types
pub typed : (c : Chain) (ts : List Ty) → IsLegalCall c ts → IsTyped c ts
typed (C.Of f) ts l =
    let p : Passes (C.Of f) (numbered 1 ts) = legal_passes (C.Of f) ts l in
    subst (TakesTypes f) (types-numbered 1 ts) (leaf_typed f (numbered 1 ts) p.least_ok p.greatest_ok p.types_ok)
typed (C.If c) ts l = typed c (inward (C.If c) ts) (inner_is_legal (C.If c) c ts refl l)
typed (C.Array c) ts l = typed c (inward (C.Array c) ts) (inner_is_legal (C.Array c) c ts refl l)
typed (C.MapOf c) ts l = typed c (inward (C.MapOf c) ts) (inner_is_legal (C.MapOf c) c ts refl l)
typed (C.ForEach c) ts l = typed c (inward (C.ForEach c) ts) (inner_is_legal (C.ForEach c) c ts refl l)
typed (C.OrNull c) ts l = typed c ts (inner_is_legal (C.OrNull c) c ts refl l)
typed (C.OrDefault c) ts l = typed c ts (inner_is_legal (C.OrDefault c) c ts refl l)
typed (C.Distinct c) ts l =
    let p : Passes (C.Distinct c) (numbered 1 ts) = legal_passes (C.Distinct c) ts l in
    let t = or_none (each_is holds_no_state (numbered 1 ts)) (arg_types c (numbered 1 ts)) p.types_ok in
    let here : Each IsStateless (types (numbered 1 ts)) = each holds_no_state IsStateless stateless (numbered 1 ts) t.0 in
    (subst (Each IsStateless) (types-numbered 1 ts) here, typed c ts (inner_is_legal (C.Distinct c) c ts refl l))
typed (C.State c) ts l = typed c ts (inner_is_legal (C.State c) c ts refl l)
typed (C.Merge c) ts l = typed c (inward (C.Merge c) ts) (inner_is_legal (C.Merge c) c ts refl l)
typed (C.Resample start end step c) ts l =
    typed c (inward (C.Resample start end step c) ts) (inner_is_legal (C.Resample start end step c) c ts refl l)

-- a legal chain over legal types is as the laws need it
pub legal_is_lawful : (c : Chain) (ts : List Ty) → IsLegalCall c ts → IsLegal c ts
legal_is_lawful c ts l =
    let a = both (is_formed c (length ts)) (is_typed c ts) l.0 in
    let f : Formed c (length ts) = formed c (length ts) a.0 in
    (sound (pattern_conditions (arguments_reaching (suffixes_of c) (length ts))) 1 c f.range, typed c ts l)
