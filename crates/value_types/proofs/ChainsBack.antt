-- A chain is read back from its image.
use Rattle.std.proofs.Common.{◌≡◌, List, [], ◌∷◌, map, refl, sym, ap, ap₂, ◌∙◌}
use Rattle.agg_terms.specs.Chains as terms
use Rattle.value_types.specs.declared.pattern.Op.{Op}
use Rattle.value_types.specs.declared.pattern.Op.TheVariants as op
use Rattle.value_types.specs.declared.pattern.PatItem.{PatItem}
use Rattle.value_types.specs.declared.pattern.PatItem.TheVariants as item
use Rattle.value_types.specs.declared.pattern.PatLink.{PatLink}
use Rattle.value_types.specs.declared.pattern.PatLink.TheVariants as link
use Rattle.value_types.specs.declared.pattern.Pattern.{Pattern}
use Rattle.value_types.specs.declared.leaf.Leaf.{Leaf}
use Rattle.value_types.specs.declared.leaf.Leaf.TheVariants as leaf
use Rattle.value_types.specs.declared.chain.Chain.{Chain}
use Rattle.value_types.specs.declared.chain.Chain.TheOpen.{Chain-F}
use Rattle.value_types.specs.declared.chain.Chain.TheFolds.{fold-roll-Chain, ind-Chain, map-Chain}
use Rattle.value_types.specs.declared.chain.Chain.TheViews.{roll-Chain}
use Rattle.value_types.specs.Folds.{op_of, item_of, link_of, pattern_of, leaf_of, chain_step, chain_of}
use Rattle.value_types.specs.OneToOne.{IsOneToOne}

-- what is read back from its image has an image of its own
pub one_to_one : {X Y : Type 0} (f : X → Y) (back : Y → X) → ((x : X) → back (f x) ≡ x) → IsOneToOne f
one_to_one f back read a b same = sym (read a) ∙ ap back same ∙ read b

pub map_back : {X Y : Type 0} (f : X → Y) (back : Y → X) → ((x : X) → back (f x) ≡ x) → (xs : List X) → map back (map f xs) ≡ xs
map_back f back read [] = refl
map_back f back read (x ∷ xs) = ap₂ ◌∷◌ (read x) (map_back f back read xs)

abbrev pub op_back : terms.Op → Op
op_back terms.Below = op.Less
op_back terms.BelowOrAt = op.LessEq
op_back terms.At = op.Equal
op_back terms.AtOrAbove = op.GreaterEq
op_back terms.Above = op.Greater

pub op_read : (o : Op) → op_back (op_of o) ≡ o
op_read op.Less = refl
op_read op.LessEq = refl
op_read op.Equal = refl
op_read op.GreaterEq = refl
op_read op.Greater = refl

abbrev pub item_back : terms.PatItem → PatItem
item_back (terms.Cond n) = item.Cond n
item_back terms.Any = item.Any

pub item_read : (i : PatItem) → item_back (item_of i) ≡ i
item_read (item.Cond n) = refl
item_read item.Any = refl

abbrev pub link_back : terms.PatLink → PatLink
link_back terms.Next = link.Next
link_back terms.Gap = link.Gap
link_back (terms.Time o n) = link.Time (op_back o) n

pub link_read : (l : PatLink) → link_back (link_of l) ≡ l
link_read link.Next = refl
link_read link.Gap = refl
link_read (link.Time o n) = ap (λ p. link.Time p n) (op_read o)

abbrev pub pattern_back : terms.Pattern → Pattern
pattern_back p = record { items = map item_back p.items; links = map link_back p.links }

pub pattern_read : (p : Pattern) → pattern_back (pattern_of p) ≡ p
pattern_read p = λ i. record { items = map_back item_of item_back item_read p.items i; links = map_back link_of link_back link_read p.links i }

abbrev pub leaf_back : terms.Leaf → Leaf
leaf_back terms.Count = leaf.Count
leaf_back terms.Sum = leaf.Sum
leaf_back terms.Min = leaf.Min
leaf_back terms.Max = leaf.Max
leaf_back terms.ArgMin = leaf.ArgMin
leaf_back terms.ArgMax = leaf.ArgMax
leaf_back (terms.GroupBit terms.And) = leaf.BitAnd
leaf_back (terms.GroupBit terms.Or) = leaf.BitOr
leaf_back (terms.GroupBit terms.Xor) = leaf.BitXor
leaf_back (terms.GroupArray most) = leaf.GroupArray most
leaf_back terms.UniqExact = leaf.UniqExact
leaf_back (terms.QuantileExact level) = leaf.QuantileExact level
leaf_back (terms.WindowFunnel window strict) = leaf.WindowFunnel window strict
leaf_back (terms.SequenceMatch pattern) = leaf.SequenceMatch (pattern_back pattern)
leaf_back terms.Retention = leaf.Retention

pub leaf_read : (f : Leaf) → leaf_back (leaf_of f) ≡ f
leaf_read leaf.Count = refl
leaf_read leaf.Sum = refl
leaf_read leaf.Min = refl
leaf_read leaf.Max = refl
leaf_read leaf.ArgMin = refl
leaf_read leaf.ArgMax = refl
leaf_read leaf.BitAnd = refl
leaf_read leaf.BitOr = refl
leaf_read leaf.BitXor = refl
leaf_read (leaf.GroupArray most) = refl
leaf_read leaf.UniqExact = refl
leaf_read (leaf.QuantileExact level) = refl
leaf_read (leaf.WindowFunnel window strict) = refl
leaf_read (leaf.SequenceMatch pattern) = ap leaf.SequenceMatch (pattern_read pattern)
leaf_read leaf.Retention = refl

abbrev pub chain_back : terms.Chain → Chain
chain_back (terms.Of f) = roll-Chain (Chain-F.Leaf (leaf_back f))
chain_back (terms.If c) = roll-Chain (Chain-F.If (chain_back c))
chain_back (terms.Array c) = roll-Chain (Chain-F.Array (chain_back c))
chain_back (terms.MapOf c) = roll-Chain (Chain-F.MapOf (chain_back c))
chain_back (terms.ForEach c) = roll-Chain (Chain-F.ForEach (chain_back c))
chain_back (terms.OrNull c) = roll-Chain (Chain-F.OrNull (chain_back c))
chain_back (terms.OrDefault c) = roll-Chain (Chain-F.OrDefault (chain_back c))
chain_back (terms.Distinct c) = roll-Chain (Chain-F.Distinct (chain_back c))
chain_back (terms.Resample start end step c) = roll-Chain (Chain-F.Resample start end step (chain_back c))
chain_back (terms.State c) = roll-Chain (Chain-F.State (chain_back c))
chain_back (terms.Merge c) = roll-Chain (Chain-F.Merge (chain_back c))

abbrev IsRead : Chain → Type 0
IsRead c = chain_back (chain_of c) ≡ c

abbrev Read : Type 0
Read = (c : Chain) × IsRead c

-- a layer whose parts are read back
abbrev bare : Chain-F Read → Chain-F Chain
bare = map-Chain Read Chain (λ c. c.0)

layer_read : (layer : Chain-F Read) → chain_back (chain_step (map-Chain Chain terms.Chain chain_of (bare layer))) ≡ roll-Chain (bare layer)
layer_read (Chain-F.Leaf f) = ap (λ g. roll-Chain (Chain-F.Leaf g)) (leaf_read f)
layer_read (Chain-F.If c) = ap (λ d. roll-Chain (Chain-F.If d)) c.1
layer_read (Chain-F.Array c) = ap (λ d. roll-Chain (Chain-F.Array d)) c.1
layer_read (Chain-F.MapOf c) = ap (λ d. roll-Chain (Chain-F.MapOf d)) c.1
layer_read (Chain-F.ForEach c) = ap (λ d. roll-Chain (Chain-F.ForEach d)) c.1
layer_read (Chain-F.OrNull c) = ap (λ d. roll-Chain (Chain-F.OrNull d)) c.1
layer_read (Chain-F.OrDefault c) = ap (λ d. roll-Chain (Chain-F.OrDefault d)) c.1
layer_read (Chain-F.Distinct c) = ap (λ d. roll-Chain (Chain-F.Distinct d)) c.1
layer_read (Chain-F.Resample start end step c) = ap (λ d. roll-Chain (Chain-F.Resample start end step d)) c.1
layer_read (Chain-F.State c) = ap (λ d. roll-Chain (Chain-F.State d)) c.1
layer_read (Chain-F.Merge c) = ap (λ d. roll-Chain (Chain-F.Merge d)) c.1

pub chain_read : (c : Chain) → chain_back (chain_of c) ≡ c
chain_read = ind-Chain IsRead (λ layer parts is.
    ap chain_back (fold-roll-Chain terms.Chain chain_step layer)
    ∙ ap (λ z. chain_back (chain_step (map-Chain Chain terms.Chain chain_of z))) (sym is) ∙ layer_read parts ∙ ap roll-Chain is)
