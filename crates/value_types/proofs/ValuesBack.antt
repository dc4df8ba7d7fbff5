-- Values and trees are read back from their images.
use Rattle.std.proofs.Common.{◌≡◌, List, [], ◌∷◌, map, refl, sym, ap, ap₂, ◌∙◌}
use Rattle.agg_terms.specs.Values as family
use Rattle.value_types.specs.declared.value.Event.{Event}
use Rattle.value_types.specs.declared.value.Value.{Value}
use Rattle.value_types.specs.declared.value.Tree.{Tree}
use Rattle.value_types.specs.declared.value.KeyedTree.{KeyedTree}
use Rattle.value_types.specs.declared.value.Tree.TheOpen.{Value-F, Tree-F, KeyedTree-F}
use Rattle.value_types.specs.declared.value.Tree.TheFolds.{fold-roll-Value, fold-roll-Tree, fold-roll-KeyedTree, ind-Value, ind-Tree, map-Value, map-Tree, map-KeyedTree}
use Rattle.value_types.specs.declared.value.Tree.TheViews.{roll-Value, roll-Tree, roll-KeyedTree}
use Rattle.value_types.specs.Folds.{entry_of, entry_step, event_of, tree_of, tree_step, value_of, value_step}
use Rattle.value_types.proofs.ChainsBack.{map_back}

abbrev pub event_back : family.Event → Event
event_back e = record { time = e.time; mask = e.mask }

abbrev mutual
  pub value_back : family.Value → Value
  value_back (family.Num n) = roll-Value (Value-F.Num n)
  value_back (family.Bytes bytes) = roll-Value (Value-F.Bytes bytes)
  value_back family.Nil = roll-Value Value-F.Nil
  value_back (family.Items vs) = roll-Value (Value-F.List (values_back vs))
  value_back (family.Pairs es) = roll-Value (Value-F.Pairs (pairs_back es))
  value_back (family.Cell t) = roll-Value (Value-F.Cell (tree_back t))

  pub values_back : family.Values → List Value
  values_back family.no_values = []
  values_back (family.a_value v vs) = value_back v ∷ values_back vs

  pub pairs_back : family.Entries → List (Value × Value)
  pairs_back family.no_entries = []
  pairs_back (family.an_entry k v es) = (value_back k, value_back v) ∷ pairs_back es

  pub rows_back : family.Table → List (List Value)
  rows_back family.no_rows = []
  rows_back (family.a_row r rs) = values_back r ∷ rows_back rs

  pub tree_back : family.Tree → Tree
  tree_back family.Empty = roll-Tree Tree-F.Empty
  tree_back (family.Word n) = roll-Tree (Tree-F.Word n)
  tree_back (family.Tuple vs) = roll-Tree (Tree-F.Tuple (values_back vs))
  tree_back (family.Listed vs) = roll-Tree (Tree-F.Values (values_back vs))
  tree_back (family.Rows rs) = roll-Tree (Tree-F.Rows (rows_back rs))
  tree_back (family.Events es) = roll-Tree (Tree-F.Events (map event_back es))
  tree_back (family.Slots ts) = roll-Tree (Tree-F.Slots (trees_back ts))
  tree_back (family.Keyed es) = roll-Tree (Tree-F.Keyed (keyed_back es))

  pub trees_back : family.Trees → List Tree
  trees_back family.no_trees = []
  trees_back (family.a_tree t ts) = tree_back t ∷ trees_back ts

  pub keyed_back : family.KeyedTrees → List KeyedTree
  keyed_back family.no_keys = []
  keyed_back (family.a_key k t es) = roll-KeyedTree (record { key = value_back k; tree = tree_back t }) ∷ keyed_back es

abbrev entry_back : family.Value × family.Tree → KeyedTree
entry_back e = roll-KeyedTree (record { key = value_back e.0; tree = tree_back e.1 })

abbrev ReadValue : Type 0
ReadValue = (v : Value) × (value_back (value_of v) ≡ v)

abbrev ReadTree : Type 0
ReadTree = (t : Tree) × (tree_back (tree_of t) ≡ t)

abbrev ReadEntry : Type 0
ReadEntry = (e : KeyedTree) × (entry_back (entry_of e) ≡ e)

-- lists of parts that are read back
values_read : (vs : List ReadValue) → values_back (family.values (map value_of (map (λ v. v.0) vs))) ≡ map (λ v. v.0) vs
values_read [] = refl
values_read (v ∷ vs) = ap₂ ◌∷◌ v.1 (values_read vs)

abbrev pair_of : Value × Value → family.Value × family.Value
pair_of e = (value_of e.0, value_of e.1)

pairs_read : (es : List (ReadValue × ReadValue)) → pairs_back (family.entries (map pair_of (map (λ e. (e.0.0, e.1.0)) es))) ≡ map (λ e. (e.0.0, e.1.0)) es
pairs_read [] = refl
pairs_read (e ∷ es) = ap₂ ◌∷◌ (λ i. (e.0.1 i, e.1.1 i)) (pairs_read es)

rows_read : (rs : List (List ReadValue)) → rows_back (family.table (map (map value_of) (map (map (λ v. v.0)) rs))) ≡ map (map (λ v. v.0)) rs
rows_read [] = refl
rows_read (r ∷ rs) = ap₂ ◌∷◌ (values_read r) (rows_read rs)

trees_read : (ts : List ReadTree) → trees_back (family.trees (map tree_of (map (λ t. t.0) ts))) ≡ map (λ t. t.0) ts
trees_read [] = refl
trees_read (t ∷ ts) = ap₂ ◌∷◌ t.1 (trees_read ts)

keyed_read : (es : List ReadEntry) → keyed_back (family.keyed_trees (map entry_of (map (λ e. e.0) es))) ≡ map (λ e. e.0) es
keyed_read [] = refl
keyed_read (e ∷ es) = ap₂ ◌∷◌ e.1 (keyed_read es)

-- layers whose parts are read back
abbrev bare_value : Value-F ReadTree ReadValue ReadEntry → Value-F Tree Value KeyedTree
bare_value = map-Value ReadTree ReadValue ReadEntry Tree Value KeyedTree (λ t. t.0) (λ v. v.0) (λ e. e.0)

abbrev bare_tree : Tree-F ReadTree ReadValue ReadEntry → Tree-F Tree Value KeyedTree
bare_tree = map-Tree ReadTree ReadValue ReadEntry Tree Value KeyedTree (λ t. t.0) (λ v. v.0) (λ e. e.0)

abbrev bare_entry : KeyedTree-F ReadTree ReadValue ReadEntry → KeyedTree-F Tree Value KeyedTree
bare_entry = map-KeyedTree ReadTree ReadValue ReadEntry Tree Value KeyedTree (λ t. t.0) (λ v. v.0) (λ e. e.0)

abbrev value_image : Value-F Tree Value KeyedTree → Value-F family.Tree family.Value (family.Value × family.Tree)
value_image = map-Value Tree Value KeyedTree family.Tree family.Value (family.Value × family.Tree) tree_of value_of entry_of

abbrev tree_image : Tree-F Tree Value KeyedTree → Tree-F family.Tree family.Value (family.Value × family.Tree)
tree_image = map-Tree Tree Value KeyedTree family.Tree family.Value (family.Value × family.Tree) tree_of value_of entry_of

abbrev entry_image : KeyedTree-F Tree Value KeyedTree → KeyedTree-F family.Tree family.Value (family.Value × family.Tree)
entry_image = map-KeyedTree Tree Value KeyedTree family.Tree family.Value (family.Value × family.Tree) tree_of value_of entry_of

value_layer : (layer : Value-F ReadTree ReadValue ReadEntry) → value_back (value_step (value_image (bare_value layer))) ≡ roll-Value (bare_value layer)
value_layer (Value-F.Num n) = refl
value_layer (Value-F.Bytes bytes) = refl
value_layer Value-F.Nil = refl
value_layer (Value-F.List vs) = ap (λ us. roll-Value (Value-F.List us)) (values_read vs)
value_layer (Value-F.Pairs es) = ap (λ us. roll-Value (Value-F.Pairs us)) (pairs_read es)
value_layer (Value-F.Cell t) = ap (λ u. roll-Value (Value-F.Cell u)) t.1

tree_layer : (layer : Tree-F ReadTree ReadValue ReadEntry) → tree_back (tree_step (tree_image (bare_tree layer))) ≡ roll-Tree (bare_tree layer)
tree_layer Tree-F.Empty = refl
tree_layer (Tree-F.Word n) = refl
tree_layer (Tree-F.Tuple vs) = ap (λ us. roll-Tree (Tree-F.Tuple us)) (values_read vs)
tree_layer (Tree-F.Values vs) = ap (λ us. roll-Tree (Tree-F.Values us)) (values_read vs)
tree_layer (Tree-F.Rows rs) = ap (λ us. roll-Tree (Tree-F.Rows us)) (rows_read rs)
tree_layer (Tree-F.Events es) = ap (λ us. roll-Tree (Tree-F.Events us)) (map_back event_of event_back (λ e. refl) es)
tree_layer (Tree-F.Slots ts) = ap (λ us. roll-Tree (Tree-F.Slots us)) (trees_read ts)
tree_layer (Tree-F.Keyed es) = ap (λ us. roll-Tree (Tree-F.Keyed us)) (keyed_read es)

entry_layer : (layer : KeyedTree-F ReadTree ReadValue ReadEntry) → entry_back (entry_step (entry_image (bare_entry layer))) ≡ roll-KeyedTree (bare_entry layer)
entry_layer layer = λ i. roll-KeyedTree (record { key = layer.key.1 i; tree = layer.tree.1 i })

abbrev IsReadTree : Tree → Type 0
IsReadTree t = tree_back (tree_of t) ≡ t

abbrev IsReadValue : Value → Type 0
IsReadValue v = value_back (value_of v) ≡ v

abbrev IsReadEntry : KeyedTree → Type 0
IsReadEntry e = entry_back (entry_of e) ≡ e

tree_step_read : (layer : Tree-F Tree Value KeyedTree) (parts : Tree-F ReadTree ReadValue ReadEntry) → bare_tree parts ≡ layer → IsReadTree (roll-Tree layer)
tree_step_read layer parts is =
    ap tree_back (fold-roll-Tree family.Tree family.Value (family.Value × family.Tree) tree_step value_step entry_step layer)
    ∙ ap (λ z. tree_back (tree_step (tree_image z))) (sym is) ∙ tree_layer parts ∙ ap roll-Tree is

value_step_read : (layer : Value-F Tree Value KeyedTree) (parts : Value-F ReadTree ReadValue ReadEntry) → bare_value parts ≡ layer → IsReadValue (roll-Value layer)
value_step_read layer parts is =
    ap value_back (fold-roll-Value family.Tree family.Value (family.Value × family.Tree) tree_step value_step entry_step layer)
    ∙ ap (λ z. value_back (value_step (value_image z))) (sym is) ∙ value_layer parts ∙ ap roll-Value is

entry_step_read : (layer : KeyedTree-F Tree Value KeyedTree) (parts : KeyedTree-F ReadTree ReadValue ReadEntry) → bare_entry parts ≡ layer → IsReadEntry (roll-KeyedTree layer)
entry_step_read layer parts is =
    ap entry_back (fold-roll-KeyedTree family.Tree family.Value (family.Value × family.Tree) tree_step value_step entry_step layer)
    ∙ ap (λ z. entry_back (entry_step (entry_image z))) (sym is) ∙ entry_layer parts ∙ ap roll-KeyedTree is

pub value_read : (v : Value) → value_back (value_of v) ≡ v
value_read = ind-Value IsReadTree IsReadValue IsReadEntry tree_step_read value_step_read entry_step_read

pub tree_read : (t : Tree) → tree_back (tree_of t) ≡ t
tree_read = ind-Tree IsReadTree IsReadValue IsReadEntry tree_step_read value_step_read entry_step_read
