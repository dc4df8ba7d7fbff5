-- Each fold at one variant, for answers.
use Rattle.std.proofs.Common.{◌≡◌, ℕ, ℤ, List, map, ap, sym, ◌∙◌}
use mir.Syntax.{w8, w16, w32, w64}
use Rattle.agg_terms.specs.Chains as terms
use Rattle.agg_terms.specs.Values as family
use Rattle.value_types.specs.declared.leaf.Leaf.{Leaf}
use Rattle.value_types.specs.declared.chain.Chain.{Chain}
use Rattle.value_types.specs.declared.chain.Chain.TheOpen.{Chain-F}
use Rattle.value_types.specs.declared.chain.Chain.TheFolds.{fold-roll-Chain}
use Rattle.value_types.specs.declared.chain.Chain.TheVariants as chain
use Rattle.value_types.specs.declared.ty.Ty.{Ty}
use Rattle.value_types.specs.declared.ty.Ty.TheOpen.{Ty-F}
use Rattle.value_types.specs.declared.ty.Ty.TheFolds.{fold-roll-Ty}
use Rattle.value_types.specs.declared.ty.Ty.TheVariants as ty
use Rattle.value_types.specs.declared.value.Event.{Event}
use Rattle.value_types.specs.declared.value.Value.{Value}
use Rattle.value_types.specs.declared.value.Value.TheVariants as value
use Rattle.value_types.specs.declared.value.Tree.{Tree}
use Rattle.value_types.specs.declared.value.Tree.TheVariants as tree
use Rattle.value_types.specs.declared.value.Tree.TheOpen.{Value-F, Tree-F}
use Rattle.value_types.specs.declared.value.Tree.TheFolds.{fold-roll-Value, fold-roll-Tree, map-Value, map-Tree}
use Rattle.value_types.specs.declared.value.Tree.TheViews.{roll-Value, roll-Tree}
use Rattle.value_types.specs.declared.value.KeyedTree.{KeyedTree}
use Rattle.value_types.specs.Folds.{chain_of, chain_step, entry_of, entry_step, event_of, leaf_of, tree_of, tree_step, ty_of, ty_step, value_of, value_step}

-- chains

module _ (c : Chain) where
  pub chain_of-If : chain_of (chain.If c) ≡ terms.If (chain_of c)
  chain_of-If = ap chain_of (sym (chain.rolls-If c)) ∙ fold-roll-Chain terms.Chain chain_step (Chain-F.If c)

  pub chain_of-Array : chain_of (chain.Array c) ≡ terms.Array (chain_of c)
  chain_of-Array = ap chain_of (sym (chain.rolls-Array c)) ∙ fold-roll-Chain terms.Chain chain_step (Chain-F.Array c)

  pub chain_of-MapOf : chain_of (chain.MapOf c) ≡ terms.MapOf (chain_of c)
  chain_of-MapOf = ap chain_of (sym (chain.rolls-MapOf c)) ∙ fold-roll-Chain terms.Chain chain_step (Chain-F.MapOf c)

  pub chain_of-ForEach : chain_of (chain.ForEach c) ≡ terms.ForEach (chain_of c)
  chain_of-ForEach = ap chain_of (sym (chain.rolls-ForEach c)) ∙ fold-roll-Chain terms.Chain chain_step (Chain-F.ForEach c)

  pub chain_of-OrNull : chain_of (chain.OrNull c) ≡ terms.OrNull (chain_of c)
  chain_of-OrNull = ap chain_of (sym (chain.rolls-OrNull c)) ∙ fold-roll-Chain terms.Chain chain_step (Chain-F.OrNull c)

  pub chain_of-OrDefault : chain_of (chain.OrDefault c) ≡ terms.OrDefault (chain_of c)
  chain_of-OrDefault = ap chain_of (sym (chain.rolls-OrDefault c)) ∙ fold-roll-Chain terms.Chain chain_step (Chain-F.OrDefault c)

  pub chain_of-Distinct : chain_of (chain.Distinct c) ≡ terms.Distinct (chain_of c)
  chain_of-Distinct = ap chain_of (sym (chain.rolls-Distinct c)) ∙ fold-roll-Chain terms.Chain chain_step (Chain-F.Distinct c)

  pub chain_of-Resample : (start end : ℤ) (step : ℕ) → chain_of (chain.Resample start end step c) ≡ terms.Resample start end step (chain_of c)
  chain_of-Resample start end step =
      ap chain_of (sym (chain.rolls-Resample start end step c)) ∙ fold-roll-Chain terms.Chain chain_step (Chain-F.Resample start end step c)

  pub chain_of-State : chain_of (chain.State c) ≡ terms.State (chain_of c)
  chain_of-State = ap chain_of (sym (chain.rolls-State c)) ∙ fold-roll-Chain terms.Chain chain_step (Chain-F.State c)

  pub chain_of-Merge : chain_of (chain.Merge c) ≡ terms.Merge (chain_of c)
  chain_of-Merge = ap chain_of (sym (chain.rolls-Merge c)) ∙ fold-roll-Chain terms.Chain chain_step (Chain-F.Merge c)

pub chain_of-Leaf : (f : Leaf) → chain_of (chain.Leaf f) ≡ terms.Of (leaf_of f)
chain_of-Leaf f = ap chain_of (sym (chain.rolls-Leaf f)) ∙ fold-roll-Chain terms.Chain chain_step (Chain-F.Leaf f)

pub ruleset chain_laws = (chain_of-Leaf, chain_of-If, chain_of-Array, chain_of-MapOf, chain_of-ForEach, chain_of-OrNull, chain_of-OrDefault, chain_of-Distinct, chain_of-Resample, chain_of-State, chain_of-Merge)

-- types
pub ty_of-U8 : ty_of ty.U8 ≡ terms.Whole 8
ty_of-U8 = ap ty_of (sym ty.rolls-U8) ∙ fold-roll-Ty terms.Ty ty_step Ty-F.U8

pub ty_of-U16 : ty_of ty.U16 ≡ terms.Whole 16
ty_of-U16 = ap ty_of (sym ty.rolls-U16) ∙ fold-roll-Ty terms.Ty ty_step Ty-F.U16

pub ty_of-U32 : ty_of ty.U32 ≡ terms.Whole 32
ty_of-U32 = ap ty_of (sym ty.rolls-U32) ∙ fold-roll-Ty terms.Ty ty_step Ty-F.U32

pub ty_of-U64 : ty_of ty.U64 ≡ terms.Whole 64
ty_of-U64 = ap ty_of (sym ty.rolls-U64) ∙ fold-roll-Ty terms.Ty ty_step Ty-F.U64

pub ty_of-I8 : ty_of ty.I8 ≡ terms.Signed w8
ty_of-I8 = ap ty_of (sym ty.rolls-I8) ∙ fold-roll-Ty terms.Ty ty_step Ty-F.I8

pub ty_of-I16 : ty_of ty.I16 ≡ terms.Signed w16
ty_of-I16 = ap ty_of (sym ty.rolls-I16) ∙ fold-roll-Ty terms.Ty ty_step Ty-F.I16

pub ty_of-I32 : ty_of ty.I32 ≡ terms.Signed w32
ty_of-I32 = ap ty_of (sym ty.rolls-I32) ∙ fold-roll-Ty terms.Ty ty_step Ty-F.I32

pub ty_of-I64 : ty_of ty.I64 ≡ terms.Signed w64
ty_of-I64 = ap ty_of (sym ty.rolls-I64) ∙ fold-roll-Ty terms.Ty ty_step Ty-F.I64

pub ty_of-Str : ty_of ty.Str ≡ terms.Str
ty_of-Str = ap ty_of (sym ty.rolls-Str) ∙ fold-roll-Ty terms.Ty ty_step Ty-F.Str

pub ty_of-Arr : (t : Ty) → ty_of (ty.Arr t) ≡ terms.Arr (ty_of t)
ty_of-Arr t = ap ty_of (sym (ty.rolls-Arr t)) ∙ fold-roll-Ty terms.Ty ty_step (Ty-F.Arr t)

pub ty_of-Map : (k t : Ty) → ty_of (ty.Map k t) ≡ terms.MapTy (ty_of k) (ty_of t)
ty_of-Map k t = ap ty_of (sym (ty.rolls-Map k t)) ∙ fold-roll-Ty terms.Ty ty_step (Ty-F.Map k t)

pub ty_of-Nullable : (t : Ty) → ty_of (ty.Nullable t) ≡ terms.Nullable (ty_of t)
ty_of-Nullable t = ap ty_of (sym (ty.rolls-Nullable t)) ∙ fold-roll-Ty terms.Ty ty_step (Ty-F.Nullable t)

pub ty_of-State : (c : Chain) (ts : List Ty) → ty_of (ty.State c ts) ≡ terms.StateOf (chain_of c) (terms.tys (map ty_of ts))
ty_of-State c ts = ap ty_of (sym (ty.rolls-State c ts)) ∙ fold-roll-Ty terms.Ty ty_step (Ty-F.State c ts)

pub ruleset ty_laws = (ty_of-U8, ty_of-U16, ty_of-U32, ty_of-U64, ty_of-I8, ty_of-I16, ty_of-I32, ty_of-I64, ty_of-Str, ty_of-Arr, ty_of-Map, ty_of-Nullable, ty_of-State)

-- values
abbrev Image : Type 0
Image = family.Value × family.Tree

abbrev value_image : Value-F Tree Value KeyedTree → Value-F family.Tree family.Value Image
value_image = map-Value Tree Value KeyedTree family.Tree family.Value Image tree_of value_of entry_of

abbrev tree_image : Tree-F Tree Value KeyedTree → Tree-F family.Tree family.Value Image
tree_image = map-Tree Tree Value KeyedTree family.Tree family.Value Image tree_of value_of entry_of

value_rolls : (layer : Value-F Tree Value KeyedTree) → value_of (roll-Value layer) ≡ value_step (value_image layer)
value_rolls = fold-roll-Value family.Tree family.Value (family.Value × family.Tree) tree_step value_step entry_step

tree_rolls : (layer : Tree-F Tree Value KeyedTree) → tree_of (roll-Tree layer) ≡ tree_step (tree_image layer)
tree_rolls = fold-roll-Tree family.Tree family.Value (family.Value × family.Tree) tree_step value_step entry_step

pub value_of-Num : (n : ℤ) → value_of (value.Num n) ≡ family.Num n
value_of-Num n = ap value_of (sym (value.rolls-Num n)) ∙ value_rolls (Value-F.Num n)

pub value_of-Bytes : (bytes : List ℕ) → value_of (value.Bytes bytes) ≡ family.Bytes bytes
value_of-Bytes bytes = ap value_of (sym (value.rolls-Bytes bytes)) ∙ value_rolls (Value-F.Bytes bytes)

pub value_of-Nil : value_of value.Nil ≡ family.Nil
value_of-Nil = ap value_of (sym value.rolls-Nil) ∙ value_rolls Value-F.Nil

pub value_of-List : (vs : List Value) → value_of (value.List vs) ≡ family.list_value (map value_of vs)
value_of-List vs = ap value_of (sym (value.rolls-List vs)) ∙ value_rolls (Value-F.List vs)

pub value_of-Pairs : (es : List (Value × Value)) → value_of (value.Pairs es) ≡ family.map_value (map (λ e. (value_of e.0, value_of e.1)) es)
value_of-Pairs es = ap value_of (sym (value.rolls-Pairs es)) ∙ value_rolls (Value-F.Pairs es)

pub value_of-Cell : (t : Tree) → value_of (value.Cell t) ≡ family.Cell (tree_of t)
value_of-Cell t = ap value_of (sym (value.rolls-Cell t)) ∙ value_rolls (Value-F.Cell t)

pub ruleset value_laws = (value_of-Num, value_of-Bytes, value_of-Nil, value_of-List, value_of-Pairs, value_of-Cell)

-- trees
pub tree_of-Empty : tree_of tree.Empty ≡ family.Empty
tree_of-Empty = ap tree_of (sym tree.rolls-Empty) ∙ tree_rolls Tree-F.Empty

pub tree_of-Word : (n : ℤ) → tree_of (tree.Word n) ≡ family.Word n
tree_of-Word n = ap tree_of (sym (tree.rolls-Word n)) ∙ tree_rolls (Tree-F.Word n)

pub tree_of-Tuple : (vs : List Value) → tree_of (tree.Tuple vs) ≡ family.tuple_tree (map value_of vs)
tree_of-Tuple vs = ap tree_of (sym (tree.rolls-Tuple vs)) ∙ tree_rolls (Tree-F.Tuple vs)

pub tree_of-Values : (vs : List Value) → tree_of (tree.Values vs) ≡ family.values_tree (map value_of vs)
tree_of-Values vs = ap tree_of (sym (tree.rolls-Values vs)) ∙ tree_rolls (Tree-F.Values vs)

pub tree_of-Rows : (rs : List (List Value)) → tree_of (tree.Rows rs) ≡ family.rows_tree (map (map value_of) rs)
tree_of-Rows rs = ap tree_of (sym (tree.rolls-Rows rs)) ∙ tree_rolls (Tree-F.Rows rs)

pub tree_of-Events : (es : List Event) → tree_of (tree.Events es) ≡ family.Events (map event_of es)
tree_of-Events es = ap tree_of (sym (tree.rolls-Events es)) ∙ tree_rolls (Tree-F.Events es)

pub tree_of-Slots : (ts : List Tree) → tree_of (tree.Slots ts) ≡ family.slots_tree (map tree_of ts)
tree_of-Slots ts = ap tree_of (sym (tree.rolls-Slots ts)) ∙ tree_rolls (Tree-F.Slots ts)

pub tree_of-Keyed : (es : List KeyedTree) → tree_of (tree.Keyed es) ≡ family.keyed_tree (map entry_of es)
tree_of-Keyed es = ap tree_of (sym (tree.rolls-Keyed es)) ∙ tree_rolls (Tree-F.Keyed es)

pub ruleset tree_laws = (tree_of-Empty, tree_of-Word, tree_of-Tuple, tree_of-Values, tree_of-Rows, tree_of-Events, tree_of-Slots, tree_of-Keyed)
