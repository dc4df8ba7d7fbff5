-- The tree of no feeds, and what is live.
use Rattle.std.proofs.Common.{◌≡◌, ℕ, zero, suc, ℤ, Bool, true, false, not, List, [], ◌∷◌, ◌++◌, map, replicate, is_some, true≢false, Option, Some, None, refl, ap, ap₂}
use Rattle.std.specs.Prelude.{flat_map, filter}
use Rattle.agg_terms.specs.Values.{slots_tree, rows_tree, list_value}
use Rattle.agg_terms.specs.Order.{compare_rows, firsts}
use Rattle.agg_terms.specs.Chains.{Leaf, Count, Sum, Min, Max, ArgMin, ArgMax, GroupArray, UniqExact, QuantileExact, WindowFunnel, SequenceMatch, Retention, GroupBit, Chain, Of, If, Array, MapOf, ForEach, OrNull, OrDefault, Distinct, State, Merge, Resample, Ty}
use Rattle.agg_meaning.specs.Feeds.{Feed}
use Rattle.agg_terms.specs.Lists.{places, is_empty}
use Rattle.agg_meaning.specs.Picks.{when_met, in_interval}
use Rattle.agg_terms.specs.Types.{intervals}
use Rattle.agg_meaning.specs.Functions.{leaf_normal, leaf_meaning}
use Rattle.agg_meaning.specs.Results.{leaf_blank, leaf_result, default}
use Rattle.agg_meaning.specs.Feeds.{no_null, opened}
use Rattle.agg_terms.specs.Types.{inward}
use Rattle.agg_meaning.specs.Results.{blank}
use Rattle.agg_meaning.specs.Suffixes.{normal, fed, meaning}
use Rattle.agg_meaning.specs.Feeds.{live}
use Rattle.agg_terms.proofs.Sorting.{filter_twice}
use Rattle.agg_terms.proofs.Generic.{map_same}
use Rattle.agg_meaning.proofs.ChainLaws.{some_parts}

leaf_of_none : (f : Leaf) (ts : List Ty) → leaf_normal f ts [] ≡ leaf_blank f
leaf_of_none Count ts = refl
leaf_of_none Sum ts = refl
leaf_of_none Min ts = refl
leaf_of_none Max ts = refl
leaf_of_none ArgMin ts = refl
leaf_of_none ArgMax ts = refl
leaf_of_none (GroupArray None) ts = refl
leaf_of_none (GroupArray (Some zero)) ts = refl
leaf_of_none (GroupArray (Some (suc n))) ts = refl
leaf_of_none UniqExact ts = refl
leaf_of_none (QuantileExact level) ts = refl
leaf_of_none (WindowFunnel window strict) ts = refl
leaf_of_none (SequenceMatch pattern) ts = refl
leaf_of_none Retention ts = refl
leaf_of_none (GroupBit op) ts = refl

same_slots : {X : Type 0} (f : ℕ → X) (x : X) → ((i : ℕ) → f i ≡ x) → (s n : ℕ) → map f (places s n) ≡ replicate n x
same_slots f x h s zero = refl
same_slots f x h s (suc n) = ap₂ ◌∷◌ (h s) (same_slots f x h (suc s) n)

-- `blank` is the normal form of no feeds
pub of_none : (c : Chain) (ts : List Ty) → normal c ts [] ≡ blank c
of_none (Of f) ts = leaf_of_none f ts
of_none (If c) ts = of_none c (inward (If c) ts)
of_none (Array c) ts = of_none c (inward (Array c) ts)
of_none (MapOf c) ts = refl
of_none (ForEach c) ts = refl
of_none (OrNull c) ts = of_none c ts
of_none (OrDefault c) ts = of_none c ts
of_none (Distinct c) ts = refl
of_none (State c) ts = of_none c ts
of_none (Merge c) ts = of_none c (inward (Merge c) ts)
of_none (Resample s e p c) ts = ap slots_tree (same_slots (λ j. normal c (inward (Resample s e p c) ts) []) (blank c) (λ j. of_none c (inward (Resample s e p c) ts)) 0 (intervals s e p))

-- only live feeds are picked
flat_map-filter : {X Y : Type 0} (f : X → List Y) (p : X → Bool) → ((x : X) → p x ≡ false → f x ≡ []) → (L : List X) → flat_map f (filter p L) ≡ flat_map f L
flat_map-filter f p h [] = refl
flat_map-filter f p h (x ∷ L) = go (p x) refl (flat_map-filter f p h L)
  where
    go : (b : Bool) → p x ≡ b → flat_map f (filter p L) ≡ flat_map f L → flat_map f (filter p (x ∷ L)) ≡ flat_map f (x ∷ L)
    go true e r = rw e (ap (λ l. f x ++ l) r)
    go false e r = rw e (rw (h x e) r)

filter_true : {X : Type 0} (L : List X) → filter (λ x. true) L ≡ L
filter_true [] = refl
filter_true (x ∷ L) = ap (◌∷◌ x) (filter_true L)

met_live : {X : Type 0} (f : X × Option ℕ) → is_some f.1 ≡ false → when_met f ≡ []
met_live (x, None) e = refl
met_live (x, Some n) e = absurd (true≢false e)

interval_live : {X : Type 0} (s e : ℤ) (p j : ℕ) (f : X × Option ℤ) → is_some f.1 ≡ false → in_interval s e p j f ≡ []
interval_live s e p j (x, None) h = refl
interval_live s e p j (x, Some n) h = absurd (true≢false h)

-- the normal form is that of the live feeds, and so are what is fed and what is meant
pub normal_live : (c : Chain) (ts : List Ty) (L : List (Feed c)) → normal c ts (filter (live c) L) ≡ normal c ts L
normal_live (Of f) ts L = ap (leaf_normal f ts) (filter_twice no_null L)
normal_live (If c) ts L = ap (normal c (inward (If c) ts)) (flat_map-filter when_met (λ f. is_some f.1) met_live L)
normal_live (Array c) ts L = ap (normal (Array c) ts) (filter_true L)
normal_live (MapOf c) ts L = ap (normal (MapOf c) ts) (filter_true L)
normal_live (ForEach c) ts L = ap (normal (ForEach c) ts) (filter_true L)
normal_live (OrNull c) ts L = ap (normal c ts) (filter_true L)
normal_live (OrDefault c) ts L = ap (normal c ts) (filter_true L)
normal_live (Distinct c) ts L = ap (λ l. rows_tree (firsts compare_rows l)) (filter_twice no_null L)
normal_live (State c) ts L = ap (normal c ts) (filter_true L)
normal_live (Merge c) ts L = ap (normal (Merge c) ts) (filter_true L)
normal_live (Resample s e p c) ts L =
    ap slots_tree
    (map_same _ _ (λ j. ap (normal c (inward (Resample s e p c) ts)) (flat_map-filter (in_interval s e p j) (λ f. is_some f.1) (interval_live s e p j) L)) (places 0 (intervals s e p)))

pub fed_live : (c : Chain) (ts : List Ty) (L : List (Feed c)) → fed c ts (filter (live c) L) ≡ fed c ts L
fed_live (Of f) ts L = ap (λ l. not (is_empty l)) (filter_twice no_null L)
fed_live (If c) ts L = ap (fed c (inward (If c) ts)) (flat_map-filter when_met (λ f. is_some f.1) met_live L)
fed_live (Array c) ts L = ap (fed (Array c) ts) (filter_true L)
fed_live (MapOf c) ts L = ap (fed (MapOf c) ts) (filter_true L)
fed_live (ForEach c) ts L = ap (fed (ForEach c) ts) (filter_true L)
fed_live (OrNull c) ts L = ap (fed c ts) (filter_true L)
fed_live (OrDefault c) ts L = ap (fed c ts) (filter_true L)
fed_live (Distinct c) ts L = ap (λ l. fed c ts (map (opened c) (firsts compare_rows l))) (filter_twice no_null L)
fed_live (State c) ts L = ap (fed c ts) (filter_true L)
fed_live (Merge c) ts L = ap (fed (Merge c) ts) (filter_true L)
fed_live (Resample s e p c) ts L =
    some_parts _ _ _ _
    (map_same _ _ (λ j. ap (fed c (inward (Resample s e p c) ts)) (flat_map-filter (in_interval s e p j) (λ f. is_some f.1) (interval_live s e p j) L)) (places 0 (intervals s e p)))

pub meaning_live : (c : Chain) (ts : List Ty) (L : List (Feed c)) → meaning c ts (filter (live c) L) ≡ meaning c ts L
meaning_live (Of f) ts L = ap (leaf_meaning f ts (default (leaf_result f ts))) (filter_twice no_null L)
meaning_live (If c) ts L = ap (meaning c (inward (If c) ts)) (flat_map-filter when_met (λ f. is_some f.1) met_live L)
meaning_live (Array c) ts L = ap (meaning (Array c) ts) (filter_true L)
meaning_live (MapOf c) ts L = ap (meaning (MapOf c) ts) (filter_true L)
meaning_live (ForEach c) ts L = ap (meaning (ForEach c) ts) (filter_true L)
meaning_live (OrNull c) ts L = ap (meaning (OrNull c) ts) (filter_true L)
meaning_live (OrDefault c) ts L = ap (meaning (OrDefault c) ts) (filter_true L)
meaning_live (Distinct c) ts L = ap (λ l. meaning c ts (map (opened c) (firsts compare_rows l))) (filter_twice no_null L)
meaning_live (State c) ts L = ap (meaning (State c) ts) (filter_true L)
meaning_live (Merge c) ts L = ap (meaning (Merge c) ts) (filter_true L)
meaning_live (Resample s e p c) ts L =
    ap list_value
    (map_same _ _ (λ j. ap (meaning c (inward (Resample s e p c) ts)) (flat_map-filter (in_interval s e p j) (λ f. is_some f.1) (interval_live s e p j) L)) (places 0 (intervals s e p)))
