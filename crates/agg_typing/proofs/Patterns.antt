-- The pattern of a legal chain is one over the conditions that reach it.
use Rattle.std.proofs.Common.{◌≡◌, refl, sym, ◌∙◌, subst, ℕ, ◌-◌, ◌*◌, ◌≤◌, nat_le, Bool, true, false, cond, ◌&&◌, List, [], ◌∷◌, length, Option, Some, None, is_none, arith}
use Rattle.std.proofs.lemmas.Bool.{leb-true, le-leb}
use Rattle.std.specs.List.{list_all}
use Rattle.agg_terms.specs.Chains.{PatItem, Cond, Any, Pattern, Chain, Leaf, Ty}
use Rattle.agg_terms.specs.Chains as C
use Rattle.agg_terms.specs.Lists.{numbered}
use Rattle.agg_terms.specs.Types.{intervals, conditions}
use Rattle.agg_typing.specs.Suffixes.{arguments_reaching}
use Rattle.agg_typing.specs.Parameters.{most_conditions, pattern_conditions}
use Rattle.agg_typing.specs.Counts.{arg_count, takes_count, inside_maps}
use Rattle.agg_typing.specs.Kinds.{arg_types}
use Rattle.agg_typing.specs.States.{wrong_state}
use Rattle.agg_typing.specs.Legal.{suffixes_of, function_of, is_item, are_linked, is_pattern, leaf_in_range, is_range, in_range, is_formed, is_typed, is_legal}
use Rattle.agg_typing.proofs.Same.{both}
use Rattle.agg_typing.proofs.Tests.{or_none, is_none_is, in_bounds}
use Rattle.agg_typing.proofs.Formed.{Formed, formed}

-- a pattern over some conditions is one over more
item_of_more : (n m : ℕ) (i : PatItem) → n ≤ m → is_item n i ≡ true → is_item m i ≡ true
item_of_more n m Any l h = refl
item_of_more n m (Cond i) l h =
    let two = both (nat_le 1 i) (nat_le i n) h in
    let most : i ≤ n = leb-true i n two.1 in
    let more : nat_le i m ≡ true = le-leb i m (omega (arith, most, l)) in
    rw (two.0, more)

items_of_more : (n m : ℕ) (is : List PatItem) → n ≤ m → list_all (is_item n) is ≡ true → list_all (is_item m) is ≡ true
items_of_more n m [] l h = refl
items_of_more n m (i ∷ is) l h =
    let two = both (is_item n i) (list_all (is_item n) is) h in rw (item_of_more n m i l two.0, items_of_more n m is l two.1)

pattern_of_more : (n m : ℕ) (p : Pattern) → n ≤ m → is_pattern n p ≡ true → is_pattern m p ≡ true
pattern_of_more n m p l h =
    let a = both (nat_le (length p.items) 64) (list_all (is_item n) p.items && are_linked p.items p.links) h in
    let b = both (list_all (is_item n) p.items) (are_linked p.items p.links) a.1 in
    rw (a.0, items_of_more n m p.items l b.0, b.1)

few_conditions : (o : Option ℕ) → pattern_conditions o ≤ most_conditions
few_conditions None = omega arith
few_conditions (Some n) = cases (nat_le 1 (n - 1)) (nat_le (n - 1) most_conditions) refl
  where
    cases : (a b : Bool) → nat_le (n - 1) most_conditions ≡ b → cond (a && b) (n - 1) most_conditions ≤ most_conditions
    cases true true e = leb-true (n - 1) most_conditions e
    cases true false e = omega arith
    cases false b e = omega arith

function_in_range : (n further_out : ℕ) (c : Chain) → in_range n further_out c ≡ true → leaf_in_range n (function_of c) ≡ true
function_in_range n o (C.Of f) h = h
function_in_range n o (C.If c) h = function_in_range n o c h
function_in_range n o (C.Array c) h = function_in_range n o c h
function_in_range n o (C.MapOf c) h = function_in_range n o c h
function_in_range n o (C.ForEach c) h = function_in_range n o c h
function_in_range n o (C.OrNull c) h = function_in_range n o c h
function_in_range n o (C.OrDefault c) h = function_in_range n o c h
function_in_range n o (C.Distinct c) h = function_in_range n o c h
function_in_range n o (C.State c) h = function_in_range n o c h
function_in_range n o (C.Merge c) h = function_in_range n o c h
function_in_range n o (C.Resample start end step c) h =
    function_in_range n (o * intervals start end step) c (both (is_range o start end step) (in_range n (o * intervals start end step) c) h).1

pub patterns_are_patterns : (c : Chain) (ts : List Ty) (p : Pattern) → is_legal c ts ≡ true → function_of c ≡ C.SequenceMatch p →
    is_pattern most_conditions p ≡ true
patterns_are_patterns c ts p h e =
    let a = both (is_formed c (length ts)) (is_typed c ts) h in
    let f : Formed c (length ts) = formed c (length ts) a.0 in
    let o : Option ℕ = arguments_reaching (suffixes_of c) (length ts) in
    let r : leaf_in_range (pattern_conditions o) (function_of c) ≡ true = function_in_range (pattern_conditions o) 1 c f.range in
    let q : is_pattern (pattern_conditions o) p ≡ true = subst (λ (z : Leaf). leaf_in_range (pattern_conditions o) z ≡ true) e r in
    pattern_of_more (pattern_conditions o) most_conditions p (few_conditions o) q

-- the conditions of a pattern that a list of arguments reaches
all_reach : (n : ℕ) → 2 ≤ n → n ≤ 33 → pattern_conditions (Some n) ≡ n - 1
all_reach n l g =
    let low : nat_le 1 (n - 1) ≡ true = le-leb 1 (n - 1) (omega (arith, l)) in
    let high : nat_le (n - 1) most_conditions ≡ true = le-leb (n - 1) most_conditions (omega (arith, g)) in
    rw (low, high)

conditions-length : (ts : List Ty) → conditions ts ≡ length ts - 1
conditions-length [] = omega arith
conditions-length (t ∷ ts) = omega arith

pub pattern_meets_conditions : (p : Pattern) (ts : List Ty) → is_legal (C.Of (C.SequenceMatch p)) ts ≡ true → is_pattern (conditions ts) p ≡ true
pattern_meets_conditions p ts h =
    let c : Chain = C.Of (C.SequenceMatch p) in
    let n : ℕ = length ts in
    let a = both (is_formed c n) (is_typed c ts) h in
    let f : Formed c n = formed c n a.0 in
    let b = both (is_none (arg_count c n)) (is_none (arg_types c (numbered 1 ts)) && is_none (wrong_state c (numbered 1 ts))) a.1 in
    let counts = or_none (takes_count c n) (inside_maps c) (is_none_is (arg_count c n) b.0) in
    let bounds = in_bounds c n counts.0 in
    let same : pattern_conditions (Some n) ≡ conditions ts = all_reach n bounds.0 bounds.1 ∙ sym (conditions-length ts) in
    subst (λ (m : ℕ). is_pattern m p ≡ true) same f.range
