-- What each type of the code is in the definitions: one fold for each, by one clause for each variant.
use Rattle.std.specs.Prelude.{map}
use mir.Syntax.{w8, w16, w32, w64}
use Rattle.agg_terms.specs.Chains as terms
use Rattle.agg_terms.specs.Values as family
use Rattle.value_types.specs.declared.pattern.Op.{Op}
use Rattle.value_types.specs.declared.pattern.Op.TheVariants as op
use Rattle.value_types.specs.declared.pattern.PatItem.{PatItem}
use Rattle.value_types.specs.declared.pattern.PatItem.TheVariants as item
use Rattle.value_types.specs.declared.pattern.PatLink.{PatLink}
use Rattle.value_types.specs.declared.pattern.PatLink.TheVariants as link
use Rattle.value_types.specs.declared.pattern.Pattern.{Pattern}
use Rattle.value_types.specs.declared.leaf.Leaf.{Leaf}
use Rattle.value_types.specs.declared.leaf.Leaf.TheVariants as leaf
use Rattle.value_types.specs.declared.chain.Chain.{Chain}
use Rattle.value_types.specs.declared.chain.Chain.TheOpen.{Chain-F}
use Rattle.value_types.specs.declared.chain.Chain.TheFolds.{fold-Chain}
use Rattle.value_types.specs.declared.ty.Ty.{Ty}
use Rattle.value_types.specs.declared.ty.Ty.TheOpen.{Ty-F}
use Rattle.value_types.specs.declared.ty.Ty.TheFolds.{fold-Ty}
use Rattle.value_types.specs.declared.value.Event.{Event}
use Rattle.value_types.specs.declared.value.Value.{Value}
use Rattle.value_types.specs.declared.value.Tree.{Tree}
use Rattle.value_types.specs.declared.value.Tree.TheOpen.{Value-F, Tree-F, KeyedTree-F}
use Rattle.value_types.specs.declared.value.Tree.TheFolds.{fold-Value, fold-Tree, fold-KeyedTree}
use Rattle.value_types.specs.declared.value.KeyedTree.{KeyedTree}

-- a comparison of two times with a number
abbrev pub op_of : Op → terms.Op
op_of op.Less = terms.Below
op_of op.LessEq = terms.BelowOrAt
op_of op.Equal = terms.At
op_of op.GreaterEq = terms.AtOrAbove
op_of op.Greater = terms.Above

-- what an event of a match must be
abbrev pub item_of : PatItem → terms.PatItem
item_of (item.Cond n) = terms.Cond n
item_of item.Any = terms.Any

-- how an event of a match follows the one before
abbrev pub link_of : PatLink → terms.PatLink
link_of link.Next = terms.Next
link_of link.Gap = terms.Gap
link_of (link.Time o n) = terms.Time (op_of o) n

-- a pattern, item by item and link by link
abbrev pub pattern_of : Pattern → terms.Pattern
pattern_of p = record { items = map item_of p.items; links = map link_of p.links }

-- a function; the three bit functions are there one function with its operation
abbrev pub leaf_of : Leaf → terms.Leaf
leaf_of leaf.Count = terms.Count
leaf_of leaf.Sum = terms.Sum
leaf_of leaf.Min = terms.Min
leaf_of leaf.Max = terms.Max
leaf_of leaf.ArgMin = terms.ArgMin
leaf_of leaf.ArgMax = terms.ArgMax
leaf_of leaf.BitAnd = terms.GroupBit terms.And
leaf_of leaf.BitOr = terms.GroupBit terms.Or
leaf_of leaf.BitXor = terms.GroupBit terms.Xor
leaf_of (leaf.GroupArray most) = terms.GroupArray most
leaf_of leaf.UniqExact = terms.UniqExact
leaf_of (leaf.QuantileExact level) = terms.QuantileExact level
leaf_of (leaf.WindowFunnel window strict) = terms.WindowFunnel window strict
leaf_of (leaf.SequenceMatch pattern) = terms.SequenceMatch (pattern_of pattern)
leaf_of leaf.Retention = terms.Retention

-- one suffix, over what the chain inside is
abbrev pub chain_step : Chain-F terms.Chain → terms.Chain
chain_step (Chain-F.Leaf f) = terms.Of (leaf_of f)
chain_step (Chain-F.If c) = terms.If c
chain_step (Chain-F.Array c) = terms.Array c
chain_step (Chain-F.MapOf c) = terms.MapOf c
chain_step (Chain-F.ForEach c) = terms.ForEach c
chain_step (Chain-F.OrNull c) = terms.OrNull c
chain_step (Chain-F.OrDefault c) = terms.OrDefault c
chain_step (Chain-F.Distinct c) = terms.Distinct c
chain_step (Chain-F.Resample start end step c) = terms.Resample start end step c
chain_step (Chain-F.State c) = terms.State c
chain_step (Chain-F.Merge c) = terms.Merge c

-- a chain, from the inside out
abbrev pub chain_of : Chain → terms.Chain
chain_of = fold-Chain terms.Chain chain_step

-- one layer of a type, over what its parts are; number types are told by their width
abbrev pub ty_step : Ty-F terms.Ty → terms.Ty
ty_step Ty-F.U8 = terms.Whole 8
ty_step Ty-F.U16 = terms.Whole 16
ty_step Ty-F.U32 = terms.Whole 32
ty_step Ty-F.U64 = terms.Whole 64
ty_step Ty-F.I8 = terms.Signed w8
ty_step Ty-F.I16 = terms.Signed w16
ty_step Ty-F.I32 = terms.Signed w32
ty_step Ty-F.I64 = terms.Signed w64
ty_step Ty-F.Str = terms.Str
ty_step (Ty-F.Arr t) = terms.Arr t
ty_step (Ty-F.Map k t) = terms.MapTy k t
ty_step (Ty-F.Nullable t) = terms.Nullable t
ty_step (Ty-F.State c ts) = terms.StateOf (chain_of c) (terms.tys ts)

-- a type
abbrev pub ty_of : Ty → terms.Ty
ty_of = fold-Ty terms.Ty ty_step

-- an event, with the same time and mask
abbrev pub event_of : Event → family.Event
event_of e = record { time = e.time; mask = e.mask }

-- one layer of a value, over what its parts are
abbrev pub value_step : Value-F family.Tree family.Value (family.Value × family.Tree) → family.Value
value_step (Value-F.Num n) = family.Num n
value_step (Value-F.Bytes bytes) = family.Bytes bytes
value_step Value-F.Nil = family.Nil
value_step (Value-F.List items) = family.list_value items
value_step (Value-F.Pairs pairs) = family.map_value pairs
value_step (Value-F.Cell tree) = family.Cell tree

-- one layer of a state tree, over what its parts are
abbrev pub tree_step : Tree-F family.Tree family.Value (family.Value × family.Tree) → family.Tree
tree_step Tree-F.Empty = family.Empty
tree_step (Tree-F.Word n) = family.Word n
tree_step (Tree-F.Tuple items) = family.tuple_tree items
tree_step (Tree-F.Values items) = family.values_tree items
tree_step (Tree-F.Rows rows) = family.rows_tree rows
tree_step (Tree-F.Events events) = family.Events (map event_of events)
tree_step (Tree-F.Slots slots) = family.slots_tree slots
tree_step (Tree-F.Keyed entries) = family.keyed_tree entries

-- a key with its tree is a pair
abbrev pub entry_step : KeyedTree-F family.Tree family.Value (family.Value × family.Tree) → family.Value × family.Tree
entry_step e = (e.key, e.tree)

-- a value
abbrev pub value_of : Value → family.Value
value_of = fold-Value family.Tree family.Value (family.Value × family.Tree) tree_step value_step entry_step

-- a state tree
abbrev pub tree_of : Tree → family.Tree
tree_of = fold-Tree family.Tree family.Value (family.Value × family.Tree) tree_step value_step entry_step

-- the state at a key of a map
abbrev pub entry_of : KeyedTree → family.Value × family.Tree
entry_of = fold-KeyedTree family.Tree family.Value (family.Value × family.Tree) tree_step value_step entry_step
