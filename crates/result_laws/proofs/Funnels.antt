-- A funnel has no more steps than there are conditions.
use Rattle.std.proofs.Common.{◌≡◌, subst, ◌⊎◌, inl, inr, ℕ, suc, ◌+◌, ◌/◌, ◌%◌, ◌^◌, ◌<◌, ◌≤◌, Bool, true, not, ◌&&◌, ◌||◌, List, [], ◌∷◌, map, length, pow_mono, arith}
use Rattle.std.specs.Prelude.{filter}
use Rattle.std.proofs.lemmas.Bool.{cases_lt, eqb-true}
use native.Mathlib.Nat.{div-eq_of_lt}
use Rattle.agg_terms.specs.Lists.{Each, rest_of}
use Rattle.agg_terms.specs.Trees.{by_time}
use Rattle.agg_terms.specs.Values.{Event, Value}
use Rattle.agg_meaning.specs.Events.{event, events, funnel_level, greatest, in_turn, is_funnel, is_in, is_in_window, is_some_mask, mask_of, mets, rising_times, sublists}
use Rattle.agg_meaning.proofs.EventLists.{length-mets, mask_lt}
use Rattle.agg_meaning.proofs.Kept.{each_append, each_ascending, each_filter, each_kept, each_of_map}
use Rattle.agg_meaning.proofs.LeafTrees.{each_map}
use Rattle.agg_typing.proofs.Same.{both}

-- an event that meets none but the n conditions
abbrev IsWithin : ℕ → Event → Type 0
IsWithin n e = e.mask < 2 ^ n

within : (n : ℕ) (r : List Value) → IsWithin n (event n r)
within n r = subst (λ k. mask_of (mets n (rest_of r)) < 2 ^ k) (length-mets n (rest_of r)) (mask_lt (mets n (rest_of r)))

events_within : (n : ℕ) (L : List (List Value)) → Each (IsWithin n) (events n L)
events_within n L =
    each_ascending (IsWithin n) by_time (filter is_some_mask (map (event n) L))
    (each_kept (IsWithin n) is_some_mask (map (event n) L) (each_of_map (IsWithin n) (event n) (within n) L))

-- a condition that is met is one of them
condition_below : (n i mask : ℕ) → mask < 2 ^ n → is_in i mask ≡ true → i < n
condition_below n i mask l h = go (cases_lt i n)
  where
    go : (i < n) ⊎ (n ≤ i) → i < n
    go (inl m) = m
    go (inr m) =
        let wide : 2 ^ n ≤ 2 ^ i = pow_mono m in
        let none : mask / 2 ^ i ≡ 0 = div-eq_of_lt (omega (arith, l, wide)) in
        let one : (mask / 2 ^ i) % 2 ≡ 1 = eqb-true ((mask / 2 ^ i) % 2) 1 h in
        absurd (omega (arith, none, one))

turns_few : (n i : ℕ) (es : List Event) → i ≤ n → Each (IsWithin n) es → in_turn i es ≡ true → i + length es ≤ n
turns_few n i [] l k h = omega (arith, l)
turns_few n i (e ∷ es) l k h =
    let two = both (is_in i e.mask) (in_turn (suc i) es) h in
    let here : i < n = condition_below n i e.mask k.0 two.0 in
    let later : suc i + length es ≤ n = turns_few n (suc i) es (omega (arith, here)) k.1 two.1 in
    omega (arith, later)

each_sublist : {X : Type 0} (P : X → Type 0) (xs : List X) → Each P xs → Each (Each P) (sublists xs)
each_sublist P [] k = (tt, tt)
each_sublist P (x ∷ xs) k =
    let rest : Each (Each P) (sublists xs) = each_sublist P xs k.1 in
    each_append (Each P) (map (λ s. x ∷ s) (sublists xs)) (sublists xs)
    (each_map (Each P) (Each P) (λ s. x ∷ s) (λ s h. (k.0, h)) (sublists xs) rest) rest

greatest_most : (n : ℕ) (ns : List ℕ) → Each (λ m. m ≤ n) ns → greatest ns ≤ n
greatest_most n [] k = omega arith
greatest_most n (m ∷ ns) k = let rest : greatest ns ≤ n = greatest_most n ns k.1 in omega (arith, k.0, rest)

funnel_short : (n window : ℕ) (strict : Bool) (s : List Event) → Each (IsWithin n) s → is_funnel window strict s ≡ true → length s ≤ n
funnel_short n window strict s k h =
    let two = both (in_turn 0 s) (is_in_window window s && (not strict || rising_times s)) h in
    let few : 0 + length s ≤ n = turns_few n 0 s (omega arith) k two.0 in
    omega (arith, few)

pub level_most : (n window : ℕ) (strict : Bool) (L : List (List Value)) → funnel_level window strict (events n L) ≤ n
level_most n window strict L =
    greatest_most n (map length (filter (is_funnel window strict) (sublists (events n L))))
    (each_map (λ s. Each (IsWithin n) s × (is_funnel window strict s ≡ true)) (λ m. m ≤ n) length (λ s h. funnel_short n window strict s h.0 h.1)
    (filter (is_funnel window strict) (sublists (events n L)))
    (each_filter (Each (IsWithin n)) (is_funnel window strict) (sublists (events n L)) (each_sublist (IsWithin n) (events n L) (events_within n L))))
