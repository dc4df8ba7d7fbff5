-- A legal chain without -Merge is one that its evaluator takes, over rows of values of its argument types.
use Rattle.std.proofs.Common.{◌≡◌, ◌&&◌, ℕ, ◌+◌, ◌≤◌, true, List, [], ◌∷◌, length, refl, arith}
use Rattle.std.specs.Prelude.{filter, nat_le}
use Rattle.std.specs.List.{list_all}
use borrow.Author.Tests.{leb-true}
use Rattle.agg_terms.specs.Chains as terms
use Rattle.agg_terms.specs.Chains.{Array, Chain, Distinct, ForEach, If, Leaf, MapOf, Merge, Of, OrDefault, OrNull, PatItem, PatLink, Pattern, Resample, State, Ty}
use Rattle.agg_terms.specs.Lists.{Each, numbered}
use Rattle.agg_terms.specs.Types.{conditions, inward}
use Rattle.agg_terms.specs.Values.{Value}
use Rattle.agg_meaning.specs.Feeds.{no_null}
use Rattle.agg_typing.specs.Legal.{are_linked, is_item, is_link, is_pattern}
use Rattle.agg_typing.specs.Promises.{IsLegalCall}
use Rattle.agg_typing.proofs.Inward.{inner_is_legal, legal_passes}
use Rattle.agg_typing.proofs.Patterns.{pattern_meets_conditions}
use Rattle.agg_typing.proofs.Reaching.{length-numbered}
use Rattle.agg_typing.proofs.Same.{both}
use Rattle.plain_rows.specs.Served.{AreEvents, IsSearched, IsServed}
use Rattle.plain_meaning.specs.Inward.{IsEvaluated, element_rows, first_live, met_rows, rows_at, rows_at_key, rows_inside}
use Rattle.plain_meaning.specs.Chains.{has_no_merge}
use Rattle.plain_meaning.proofs.Small.{IsSmallRow, at_key_small, at_small, elements_small, firsts_small, interval_small, live_small, met_small, times_small}

linked_length : (items : List PatItem) (links : List PatLink) → are_linked items links ≡ true → (1 ≤ length items) × (length links + 1 ≡ length items)
linked_length [] links h = cc h
linked_length (a ∷ []) [] h = (omega arith, omega arith)
linked_length (a ∷ []) (l ∷ ls) h = cc h
linked_length (a ∷ b ∷ items) [] h = cc h
linked_length (a ∷ b ∷ items) (l ∷ ls) h =
    let k = linked_length (b ∷ items) ls (both (is_link a l b) (are_linked (b ∷ items) ls) h).1 in
    let n : length ls + 1 ≡ length (b ∷ items) = k.1 in
    (omega arith, omega arith)

searched : (n : ℕ) (p : Pattern) → is_pattern n p ≡ true → IsSearched p
searched n p h =
    let a = both (nat_le (length p.items) 64) (list_all (is_item n) p.items && are_linked p.items p.links) h in
    let b = both (list_all (is_item n) p.items) (are_linked p.items p.links) a.1 in
    let k = linked_length p.items p.links b.1 in
    record { some = k.0; most = leb-true (length p.items) 64 a.0; links = k.1 }

rest_length : (ts : List Ty) (n : ℕ) → 2 ≤ length ts → length ts ≤ n + 1 → (1 ≤ conditions ts) × (conditions ts ≤ n)
rest_length [] n h k = absurd (omega arith)
rest_length (t ∷ ts) n h k = (omega arith, omega arith)

event_calls : (f : Leaf) (ts : List Ty) (R : List (List Value)) → 2 ≤ length ts → length ts ≤ 33 → Each IsSmallRow R → AreEvents ts (filter no_null R)
event_calls f ts R l m h =
    let k = rest_length ts 32 l m in
    record { timed = times_small (filter no_null R) (live_small R h); some = k.0; most = k.1 }

served : (f : Leaf) (ts : List Ty) (R : List (List Value)) → IsLegalCall (Of f) ts → Each IsSmallRow R → IsServed f ts (filter no_null R)
served (terms.WindowFunnel window strict) ts R l h =
    let p = legal_passes (Of (terms.WindowFunnel window strict)) ts l in
    let same : length (numbered 1 ts) ≡ length ts = length-numbered 1 ts in
    event_calls (terms.WindowFunnel window strict) ts R (omega (arith, same, p.least_ok)) (omega (arith, same, p.greatest_ok)) h
served (terms.SequenceMatch pattern) ts R l h =
    let p = legal_passes (Of (terms.SequenceMatch pattern)) ts l in
    let same : length (numbered 1 ts) ≡ length ts = length-numbered 1 ts in (
      event_calls (terms.SequenceMatch pattern) ts R (omega (arith, same, p.least_ok)) (omega (arith, same, p.greatest_ok)) h,
      searched (conditions ts) pattern (pattern_meets_conditions pattern ts l.0),
    )
served terms.Retention ts R l h =
    let p = legal_passes (Of terms.Retention) ts l in
    let same : length (numbered 1 ts) ≡ length ts = length-numbered 1 ts in
    omega (arith, same, p.greatest_ok)
served terms.Count ts R l h = tt
served terms.Sum ts R l h = tt
served terms.Min ts R l h = tt
served terms.Max ts R l h = tt
served terms.ArgMin ts R l h = tt
served terms.ArgMax ts R l h = tt
served (terms.GroupArray most) ts R l h = tt
served terms.UniqExact ts R l h = tt
served (terms.QuantileExact level) ts R l h = tt
served (terms.GroupBit op) ts R l h = tt

pub evaluates : (c : Chain) (ts : List Ty) (R : List (List Value)) → has_no_merge c ≡ true → IsLegalCall c ts → Each IsSmallRow R → IsEvaluated c ts R
evaluates (Of f) ts R m l h = served f ts R l h
evaluates (If c) ts R m l h = evaluates c (inward (If c) ts) (met_rows R) m (inner_is_legal (If c) c ts refl l) (met_small R h)
evaluates (Array c) ts R m l h = evaluates c (inward (Array c) ts) (element_rows R) m (inner_is_legal (Array c) c ts refl l) (elements_small R h)
evaluates (MapOf c) ts R m l h = λ k. evaluates c (inward (MapOf c) ts) (rows_at_key k R) m (inner_is_legal (MapOf c) c ts refl l) (at_key_small R h k)
evaluates (ForEach c) ts R m l h = λ i. evaluates c (inward (ForEach c) ts) (rows_at i R) m (inner_is_legal (ForEach c) c ts refl l) (at_small R h i)
evaluates (OrNull c) ts R m l h = evaluates c ts R m (inner_is_legal (OrNull c) c ts refl l) h
evaluates (OrDefault c) ts R m l h = evaluates c ts R m (inner_is_legal (OrDefault c) c ts refl l) h
evaluates (Distinct c) ts R m l h = evaluates c ts (first_live R) m (inner_is_legal (Distinct c) c ts refl l) (firsts_small R h)
evaluates (State c) ts R m l h = evaluates c ts R m (inner_is_legal (State c) c ts refl l) h
evaluates (Merge c) ts R m l h = cc m
evaluates (Resample start end step c) ts R m l h =
    λ j. evaluates c (inward (Resample start end step c) ts) (rows_inside start end step j R) m (inner_is_legal (Resample start end step c) c ts refl l) (interval_small R h start end step j)
