-- The trees that have a text are state trees.
use Rattle.std.proofs.Common.{◌≡◌, ℕ, List, [], ◌∷◌, inl, inr}
use Rattle.agg_meaning.proofs.LeafTrees.{each_weaker}
use Rattle.agg_terms.specs.Chains.{Leaf, Count, Sum, Min, Max, ArgMin, ArgMax, GroupArray, UniqExact, QuantileExact, WindowFunnel, SequenceMatch, Retention, GroupBit, Chain, Of, If, Array, MapOf, ForEach, OrNull, OrDefault, Distinct, State, Merge, Resample, Ty, Whole, Signed, Str, Arr, MapTy, Nullable, StateOf}
use Rattle.agg_terms.specs.Lists.{Each, NotFalling}
use Rattle.agg_terms.specs.Order.{compare}
use Rattle.agg_terms.specs.Trees.{IsPlain, IsRow, IsLeafTree, IsTree, IsEventTree}
use Rattle.agg_terms.specs.Types.{bare, first_type, inward, key_type}
use Rattle.agg_terms.specs.Values.{Value, Tree, values_tree}
use Rattle.state_texts.specs.Spelled.{HasValueText, HasRowText, HasEvents, HasLeafText, HasQuantileText, HasText}
use Rattle.state_texts.specs.declared.version.Version.{Version}
use Rattle.state_texts.specs.declared.version.Version.TheVariants.{One}

plain : (t : Ty) (v : Value) → HasValueText t v → IsPlain t v
plain (Whole n) v k = k
plain (Signed w) v k = k
plain Str v k = (k.0, k.1, k.2)
plain (Arr t) v k = (k.0, k.1, each_weaker (HasValueText t) (IsPlain t) (plain t) k.0 k.2)
plain (MapTy j t) v k = (k.0, k.1, each_weaker (λ e. HasValueText j e.0 × HasValueText t e.1) (λ e. IsPlain j e.0 × IsPlain t e.1) (λ e h. (plain j e.0 h.0, plain t e.1 h.1)) k.0 k.2)
plain (Nullable t) v (inl e) = inl e
plain (Nullable t) v (inr k) = inr (plain t v k)
plain (StateOf c ts) v k = k

row : (ts : List Ty) (r : List Value) → HasRowText ts r → IsRow ts r
row [] [] k = tt
row [] (v ∷ vs) k = k
row (t ∷ ts) [] k = k
row (t ∷ ts) (v ∷ vs) k = (plain (bare t) v k.0, row ts vs k.1)

event_tree : (n : ℕ) (t : Tree) → HasEvents n t → IsEventTree n t
event_tree n t (inl e) = inl e
event_tree n t (inr p) = inr (p.0, p.1, p.2, p.3)

quantile : (v : Version) (ty : Ty) (t : Tree) → HasQuantileText v ty t → (vs : List Value) × (t ≡ values_tree vs) × Each (IsPlain ty) vs × NotFalling compare vs
quantile One ty t p = (p.0, p.1, each_weaker (HasValueText ty) (IsPlain ty) (plain ty) p.0 p.2, p.3)

leaf : (v : Version) (f : Leaf) (ts : List Ty) (t : Tree) → HasLeafText v f ts t → IsLeafTree f ts t
leaf v Count ts t (inl e) = inl e
leaf v Count ts t (inr p) = inr (p.2.0, rw (← p.2.1) p.1, p.2.2)
leaf v Sum ts t k = k
leaf v Min ts t (inl e) = inl e
leaf v Min ts t (inr p) = inr (p.0, p.1, plain (bare (first_type ts)) p.0 p.2)
leaf v Max ts t (inl e) = inl e
leaf v Max ts t (inr p) = inr (p.0, p.1, plain (bare (first_type ts)) p.0 p.2)
leaf v ArgMin ts t (inl e) = inl e
leaf v ArgMin ts t (inr p) = inr (p.0, p.1, row ts (p.0.0 ∷ p.0.1 ∷ []) p.2)
leaf v ArgMax ts t (inl e) = inl e
leaf v ArgMax ts t (inr p) = inr (p.0, p.1, row ts (p.0.0 ∷ p.0.1 ∷ []) p.2)
leaf v (GroupArray most) ts t p = (p.0, p.1, each_weaker (HasValueText (bare (first_type ts))) (IsPlain (bare (first_type ts))) (plain (bare (first_type ts))) p.0 p.2, p.3)
leaf v UniqExact ts t p = (p.0, p.1, each_weaker (HasRowText ts) (IsRow ts) (row ts) p.0 p.2, p.3)
leaf v (QuantileExact level) ts t p = quantile v (bare (first_type ts)) t p
leaf v (WindowFunnel window strict) ts t k = event_tree _ t k
leaf v (SequenceMatch pattern) ts t k = event_tree _ t k
leaf v Retention ts t k = k
leaf v (GroupBit op) ts t (inl e) = inl e
leaf v (GroupBit op) ts t (inr p) = inr (p.0, p.1, plain (bare (first_type ts)) _ p.2)

pub of_tree : (v : Version) (c : Chain) (ts : List Ty) (t : Tree) → HasText v c ts t → IsTree c ts t
of_tree v (Of f) ts t k = leaf v f ts t k
of_tree v (If c) ts t k = of_tree v c (inward (If c) ts) t k
of_tree v (Array c) ts t k = of_tree v c (inward (Array c) ts) t k
of_tree v (MapOf c) ts t p =
    let us = inward (MapOf c) ts in
    let key = key_type (first_type ts) in
    (p.0, p.1, each_weaker (λ e. HasValueText key e.0 × HasText v c us e.1) (λ e. IsPlain key e.0 × IsTree c us e.1) (λ e h. (plain key e.0 h.0, of_tree v c us e.1 h.1)) p.0 p.2, p.3)
of_tree v (ForEach c) ts t p = let us = inward (ForEach c) ts in (p.0, p.1, each_weaker (HasText v c us) (IsTree c us) (of_tree v c us) p.0 p.2)
of_tree v (OrNull c) ts t k = of_tree v c ts t k
of_tree v (OrDefault c) ts t k = of_tree v c ts t k
of_tree v (Distinct c) ts t p = (p.0, p.1, each_weaker (HasRowText ts) (IsRow ts) (row ts) p.0 p.2, p.3)
of_tree v (State c) ts t k = of_tree v c ts t k
of_tree v (Merge c) ts t k = of_tree v c (inward (Merge c) ts) t k
of_tree v (Resample start end step c) ts t p =
    let us = inward (Resample start end step c) ts in (p.0, p.1, each_weaker (HasText v c us) (IsTree c us) (of_tree v c us) p.0 p.2, p.3)
