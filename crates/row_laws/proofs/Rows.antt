-- A row of the argument types of a legal chain opens to a feed of it.
use Rattle.std.proofs.Common.{◌≡◌, refl, sym, ap, ◌∙◌, subst, Bool, true, not, List, [], ◌∷◌, map, Some, None}
use Rattle.agg_terms.specs.Chains.{Chain, Leaf, Ty, tys_list}
use Rattle.agg_terms.specs.Chains as C
use Rattle.agg_terms.specs.Lists.{Each, front, numbered}
use Rattle.agg_terms.specs.Trees.{IsPlain, IsTree, IsValue}
use Rattle.agg_terms.specs.Types.{element, inward, key_type, map_part}
use Rattle.agg_terms.specs.Values.{Nil, Value}
use Rattle.agg_meaning.specs.Feeds.{AreValues, IfHere, IsFeed, IsLeafFeed, as_tree, entries_of, last, opened, tuples}
use Rattle.agg_meaning.proofs.LeafTrees.{each_map}
use Rattle.agg_typing.specs.Kinds.{arg_types, each_is, is_array, is_condition, is_map, is_number, last_is, with_parts}
use Rattle.agg_typing.specs.States.{is_state_of, is_state_or_merge}
use Rattle.agg_typing.specs.Same.{same_chain}
use Rattle.agg_typing.specs.Promises.{IsLegalCall}
use Rattle.agg_typing.proofs.Same.{both, chain_exact}
use Rattle.agg_typing.proofs.Tests.{each, one, or_none, types}
use Rattle.agg_typing.proofs.Reaching.{is_state, types-numbered}
use Rattle.agg_typing.proofs.Inward.{Passes, inner_is_legal, legal_passes}
use Rattle.agg_terms.specs.Widths.{IsNarrow}
use Rattle.row_laws.proofs.Parts.{IsArray, element_narrow, entries_are, front_narrow, front_values, last_value, part_narrow, tuples_are}
use Rattle.row_laws.proofs.Widened.{HasKey, IsMet, all_wider, condition_met, first_wider, number_key}

leaf_feed : (f : Leaf) (ts : List Ty) (r : List Value) → Each IsNarrow ts → AreValues ts r → IsLeafFeed f ts r
leaf_feed C.Sum ts r n k = all_wider ts r n k
leaf_feed (C.WindowFunnel window strict) ts r n k = first_wider ts r n k
leaf_feed (C.SequenceMatch pattern) ts r n k = first_wider ts r n k
leaf_feed C.Count ts r n k = k
leaf_feed C.Min ts r n k = k
leaf_feed C.Max ts r n k = k
leaf_feed C.ArgMin ts r n k = k
leaf_feed C.ArgMax ts r n k = k
leaf_feed (C.GroupBit op) ts r n k = k
leaf_feed (C.GroupArray most) ts r n k = k
leaf_feed C.UniqExact ts r n k = k
leaf_feed (C.QuantileExact level) ts r n k = k
leaf_feed C.Retention ts r n k = k

each_narrow : (part : Ty → Ty) → ((t : Ty) → IsNarrow t → IsNarrow (part t)) → (ts : List Ty) → Each IsNarrow ts → Each IsNarrow (map part ts)
each_narrow part keeps ts n = each_map IsNarrow IsNarrow part keeps ts n

-- the last argument's kind, said of the types themselves
last_of : (c : Chain) (ts : List Ty) (r : List Value) → IsLegalCall c ts → (kind : Ty → Bool) (P : Value → Type 0) →
    ((t : Ty) (v : Value) → kind t ≡ true → IsNarrow t → IsValue t v → P v) → P Nil →
    last_is kind (numbered 1 ts) ≡ None → Each IsNarrow ts → AreValues ts r → P (last Nil r)
last_of c ts r l kind P tells nil h n k =
    let same : ts ≡ types (numbered 1 ts) = sym (types-numbered 1 ts) in
    last_value kind P tells nil (numbered 1 ts) r h (subst (Each IsNarrow) same n) (subst (λ us. AreValues us r) same k)

-- the arrays of a link that opens them
arrays : (c : Chain) (ts : List Ty) → each_is is_array (numbered 1 ts) ≡ None → Each IsArray ts
arrays c ts h = subst (Each IsArray) (types-numbered 1 ts) (each is_array IsArray (λ t e. e) (numbered 1 ts) h)

-- the state of a link that merges
merged : (c : Chain) (t : Ty) (v : Value) → is_state_of c t ≡ true → IsValue t v → IsTree c (inward (C.Merge c) (t ∷ [])) (as_tree v)
merged c (C.StateOf d ts) v h k =
    let same : c ≡ d = chain_exact c d (both (same_chain c d) (not (is_state_or_merge c)) h).0 in
    subst (λ e. IsTree e (tys_list ts) (as_tree v)) (sym same) (subst (λ w. IsTree d (tys_list ts) (as_tree w)) (sym k.1) k.2)
merged c (C.Whole n) v h k = cc h
merged c (C.Signed w) v h k = cc h
merged c C.Str v h k = cc h
merged c (C.Arr t) v h k = cc h
merged c (C.MapTy j t) v h k = cc h
merged c (C.Nullable t) v h k = cc h

-- the map of a link that opens one
map_row : (c : Chain) (t : Ty) (r : List Value) → is_map t ≡ true → AreValues (t ∷ []) r →
    ((v : Value) → IsValue (map_part t) v → IsFeed c (map_part t ∷ []) (opened c (v ∷ []))) →
    IsFeed (C.MapOf c) (t ∷ []) (opened (C.MapOf c) r)
map_row c t [] h k inner = absurd k
map_row c t (v ∷ w ∷ vs) h k inner = absurd k.1
map_row c t (v ∷ []) h k inner =
    each_map (λ e. IsPlain (key_type t) e.0 × IsValue (map_part t) e.1)
    (λ e. IsPlain (key_type t) e.0 × IfHere (IsFeed c (map_part t ∷ [])) e.1)
    (λ e. (e.0, Some (opened c (e.1 ∷ [])))) (λ e g. (g.0, inner e.1 g.1)) (entries_of v) (entries_are t v h k.0)

-- the state of a link that merges
merge_row : (c : Chain) (t : Ty) (r : List Value) → is_state_of c t ≡ true → AreValues (t ∷ []) r →
    IsFeed (C.Merge c) (t ∷ []) (opened (C.Merge c) r)
merge_row c t [] h k = absurd k
merge_row c t (v ∷ w ∷ vs) h k = absurd k.1
merge_row c t (v ∷ []) h k = merged c t v h k.0

pub row : (c : Chain) (ts : List Ty) (r : List Value) → IsLegalCall c ts → Each IsNarrow ts → AreValues ts r → IsFeed c ts (opened c r)
row (C.Of f) ts r l n k = leaf_feed f ts r n k
row (C.If c) ts r l n k =
    let p : Passes (C.If c) (numbered 1 ts) = legal_passes (C.If c) ts l in
    let t = or_none (last_is is_condition (numbered 1 ts)) (arg_types c (front (numbered 1 ts))) p.types_ok in (
      row c (front ts) (front r) (inner_is_legal (C.If c) c ts refl l) (front_narrow ts n) (front_values ts r k),
      last_of (C.If c) ts r l is_condition IsMet condition_met tt t.0 n k,
    )
row (C.Resample start end step c) ts r l n k =
    let p : Passes (C.Resample start end step c) (numbered 1 ts) = legal_passes (C.Resample start end step c) ts l in
    let t = or_none (last_is is_number (numbered 1 ts)) (arg_types c (front (numbered 1 ts))) p.types_ok in (
      row c (front ts) (front r) (inner_is_legal (C.Resample start end step c) c ts refl l) (front_narrow ts n) (front_values ts r k),
      last_of (C.Resample start end step c) ts r l is_number HasKey number_key tt t.0 n k,
    )
row (C.Array c) ts r l n k =
    let p : Passes (C.Array c) (numbered 1 ts) = legal_passes (C.Array c) ts l in
    let t = or_none (each_is is_array (numbered 1 ts)) (arg_types c (with_parts element (numbered 1 ts))) p.types_ok in
    let inner : IsLegalCall c (map element ts) = inner_is_legal (C.Array c) c ts refl l in
    each_map (AreValues (map element ts)) (IsFeed c (map element ts)) (opened c)
    (λ one h. row c (map element ts) one inner (each_narrow element element_narrow ts n) h) (tuples r) (tuples_are ts r (arrays c ts t.0) k)
row (C.ForEach c) ts r l n k =
    let p : Passes (C.ForEach c) (numbered 1 ts) = legal_passes (C.ForEach c) ts l in
    let t = or_none (each_is is_array (numbered 1 ts)) (arg_types c (with_parts element (numbered 1 ts))) p.types_ok in
    let inner : IsLegalCall c (map element ts) = inner_is_legal (C.ForEach c) c ts refl l in
    each_map (AreValues (map element ts)) (IfHere (IsFeed c (map element ts))) (λ one. Some (opened c one))
    (λ one h. row c (map element ts) one inner (each_narrow element element_narrow ts n) h) (tuples r) (tuples_are ts r (arrays c ts t.0) k)
row (C.MapOf c) ts r l n k =
    let p : Passes (C.MapOf c) (numbered 1 ts) = legal_passes (C.MapOf c) ts l in
    let t = or_none (each_is is_map (numbered 1 ts)) (arg_types c (with_parts map_part (numbered 1 ts))) p.types_ok in
    let only = one is_map (λ u. is_map u ≡ true) (λ u e. e) (numbered 1 ts) p.least_ok p.greatest_ok t.0 in
    let is : ts ≡ only.0 ∷ [] = sym (types-numbered 1 ts) ∙ only.1 in
    let inner : IsLegalCall c (map map_part ts) = inner_is_legal (C.MapOf c) c ts refl l in
    let legal : IsLegalCall c (map_part only.0 ∷ []) = subst (λ us. IsLegalCall c (map map_part us)) is inner in
    let narrow : Each IsNarrow (map_part only.0 ∷ []) = subst (λ us. Each IsNarrow (map map_part us)) is (each_narrow map_part part_narrow ts n) in
    subst (λ us. IsFeed (C.MapOf c) us (opened (C.MapOf c) r)) (sym is)
    (map_row c only.0 r only.2 (subst (λ us. AreValues us r) is k)
    (λ v h. row c (map_part only.0 ∷ []) (v ∷ []) legal narrow (h, tt)))
row (C.OrNull c) ts r l n k = row c ts r (inner_is_legal (C.OrNull c) c ts refl l) n k
row (C.OrDefault c) ts r l n k = row c ts r (inner_is_legal (C.OrDefault c) c ts refl l) n k
row (C.Distinct c) ts r l n k = k
row (C.State c) ts r l n k = row c ts r (inner_is_legal (C.State c) c ts refl l) n k
row (C.Merge c) ts r l n k =
    let p : Passes (C.Merge c) (numbered 1 ts) = legal_passes (C.Merge c) ts l in
    let s = is_state c (numbered 1 ts) p.least_ok p.greatest_ok p.states_ok in
    let is : ts ≡ s.0.1 ∷ [] = sym (types-numbered 1 ts) ∙ ap types s.1 in
    subst (λ us. IsFeed (C.Merge c) us (opened (C.Merge c) r)) (sym is) (merge_row c s.0.1 r s.2 (subst (λ us. AreValues us r) is k))
