-- The order of values and of trees, kind by kind, for the code's matches.
use Rattle.std.proofs.Common.{◌≡◌, ℕ, ℤ, ◌≤◌, ◌<◌, ◌+◌, zero, suc, min, get_or, length-drop, ◌⊎◌, inl, inr, List, [], ◌∷◌, map, length, drop, refl, ap, ap₂, sym, ◌∙◌, arith, Ordering, Less, Equal, Greater}
use Rattle.std.specs.Ordering.{nat_cmp, int_cmp, ordering_reverse, ordering_then}
use Rattle.std.proofs.lemmas.Cmp.{nat_cmp_total, ranked}
use Rattle.std.proofs.lemmas.Bool.{cases_lt}
use Rattle.std.specs.Cmp.Lexicographic.{slice_cmp}
use Rattle.agg_terms.specs.Values as family
use Rattle.agg_terms.specs.Order.{compare, compare_entries, compare_keyed, compare_slots, compare_table, compare_trees, compare_values, event_cmp, rank, tree_rank}
use Rattle.value_types.specs.declared.value.Event.{Event}
use Rattle.value_types.specs.declared.value.Value.{Value}
use Rattle.value_types.specs.declared.value.Value.TheVariants as value
use Rattle.value_types.specs.declared.value.Tree.{Tree}
use Rattle.value_types.specs.declared.value.Tree.TheVariants as tree
use Rattle.value_types.specs.declared.value.KeyedTree.{KeyedTree}
use Rattle.value_types.specs.declared.value.Tree.TheOpen.{Tree-F, Value-F}
use Rattle.value_types.specs.declared.value.Tree.TheViews.{out-Tree, out-Value, roll-Tree, roll-Value, roll-out-Tree, roll-out-Value}
use Rattle.value_types.specs.Folds.{entry_of, event_of, tree_of, tree_step, value_of, value_step}
use Rattle.agg_values.proofs.Layers.{tree_image, tree_rolls, value_image, value_rolls}
use Rattle.value_types.proofs.FoldLaws.{tree_of-Empty, value_of-Nil, value_of-Num, value_of-Bytes, value_of-List, value_of-Pairs, value_of-Cell, tree_of-Word, tree_of-Tuple, tree_of-Values, tree_of-Rows, tree_of-Events, tree_of-Slots, tree_of-Keyed}
use Rattle.agg_values.specs.proving.Comparing.{keyed_cmp, pair_cmp, tree_cmp, value_cmp}

-- lists compare as their images do, element by element
pub cmp_images : {A B : Type 0} (cmp : B → B → Ordering) (f : A → B) (xs ys : List A) → slice_cmp cmp (map f xs) (map f ys) ≡ slice_cmp (λ x y. cmp (f x) (f y)) xs ys
cmp_images cmp f [] [] = refl
cmp_images cmp f [] (y ∷ ys) = refl
cmp_images cmp f (x ∷ xs) [] = refl
cmp_images cmp f (x ∷ xs) (y ∷ ys) = ap (ordering_then (cmp (f x) (f y))) (cmp_images cmp f xs ys)

pub cmp_values : (xs ys : List Value) → compare_values (family.values (map value_of xs)) (family.values (map value_of ys)) ≡ slice_cmp value_cmp xs ys
unfolding compare
cmp_values [] [] = refl
cmp_values [] (y ∷ ys) = refl
cmp_values (x ∷ xs) [] = refl
cmp_values (x ∷ xs) (y ∷ ys) = ap (ordering_then (value_cmp x y)) (cmp_values xs ys)

then_assoc : (o p q : Ordering) → ordering_then o (ordering_then p q) ≡ ordering_then (ordering_then o p) q
then_assoc Less p q = refl
then_assoc Equal p q = refl
then_assoc Greater p q = refl

cmp_pairs : (xs ys : List (Value × Value)) → compare_entries (family.entries (map (λ e. (value_of e.0, value_of e.1)) xs)) (family.entries (map (λ e. (value_of e.0, value_of e.1)) ys)) ≡ slice_cmp pair_cmp xs ys
unfolding compare
cmp_pairs [] [] = refl
cmp_pairs [] (y ∷ ys) = refl
cmp_pairs (x ∷ xs) [] = refl
cmp_pairs (x ∷ xs) (y ∷ ys) = then_assoc (value_cmp x.0 y.0) (value_cmp x.1 y.1) _ ∙ ap (ordering_then (pair_cmp x y)) (cmp_pairs xs ys)

cmp_tables : (xs ys : List (List Value)) → compare_table (family.table (map (map value_of) xs)) (family.table (map (map value_of) ys)) ≡ slice_cmp (slice_cmp value_cmp) xs ys
unfolding compare
cmp_tables [] [] = refl
cmp_tables [] (y ∷ ys) = refl
cmp_tables (x ∷ xs) [] = refl
cmp_tables (x ∷ xs) (y ∷ ys) = ap₂ ordering_then (cmp_values x y) (cmp_tables xs ys)

cmp_slots : (xs ys : List Tree) → compare_slots (family.trees (map tree_of xs)) (family.trees (map tree_of ys)) ≡ slice_cmp tree_cmp xs ys
unfolding compare
cmp_slots [] [] = refl
cmp_slots [] (y ∷ ys) = refl
cmp_slots (x ∷ xs) [] = refl
cmp_slots (x ∷ xs) (y ∷ ys) = ap (ordering_then (tree_cmp x y)) (cmp_slots xs ys)

cmp_keyed : (xs ys : List KeyedTree) → compare_keyed (family.keyed_trees (map entry_of xs)) (family.keyed_trees (map entry_of ys)) ≡ slice_cmp keyed_cmp xs ys
unfolding compare
cmp_keyed [] [] = refl
cmp_keyed [] (y ∷ ys) = refl
cmp_keyed (x ∷ xs) [] = refl
cmp_keyed (x ∷ xs) (y ∷ ys) =
    then_assoc (compare (entry_of x).0 (entry_of y).0) (compare_trees (entry_of x).1 (entry_of y).1) _ ∙ ap (ordering_then (keyed_cmp x y)) (cmp_keyed xs ys)

opened : {A : Type 0} (xs : List A) (i : ℕ) (x : A) → i < length xs → x ≡ get_or xs i x → drop i xs ≡ x ∷ drop (suc i) xs
opened [] i x l e = absurd (omega arith)
opened (y ∷ ys) zero x l e = ap (λ z. z ∷ ys) (sym e)
opened (y ∷ ys) (suc i) x l e = opened ys i x (omega arith) e

-- where the lists are alike up to a place, two elements there that differ decide
not_level : (o p r : Ordering) → o ≡ p → (o ≡ Equal → ⊥) → o ≡ ordering_then p r
not_level o Less r e f = e
not_level o Equal r e f = absurd (f e)
not_level o Greater r e f = e

pub differs : {A : Type 0} (cmp : A → A → Ordering) (xs ys : List A) (i : ℕ) (x y : A) (o : Ordering) → slice_cmp cmp (drop i xs) (drop i ys) ≡ slice_cmp cmp xs ys → i < length xs → i < length ys → x ≡ get_or xs i x → y ≡ get_or ys i y → o ≡ cmp x y → (o ≡ Equal → ⊥) → o ≡ slice_cmp cmp xs ys
differs cmp xs ys i x y o same l m e f g other =
    not_level o (cmp x y) (slice_cmp cmp (drop (suc i) xs) (drop (suc i) ys)) g other
    ∙ sym (ap₂ (slice_cmp cmp) (opened xs i x l e) (opened ys i y m f)) ∙ same

-- values
module _ (a b : Value) where
  pub both_Num : (x y : ℤ) → a ≡ value.Num x → b ≡ value.Num y → compare (value_of a) (value_of b) ≡ int_cmp x y
  unfolding compare
  both_Num x y e f = ap₂ compare (ap value_of e ∙ value_of-Num x) (ap value_of f ∙ value_of-Num y)

  pub both_Bytes : (x y : List ℕ) → a ≡ value.Bytes x → b ≡ value.Bytes y → compare (value_of a) (value_of b) ≡ slice_cmp nat_cmp x y
  unfolding compare
  both_Bytes x y e f = ap₂ compare (ap value_of e ∙ value_of-Bytes x) (ap value_of f ∙ value_of-Bytes y)

  pub both_List : (x y : List Value) → a ≡ value.List x → b ≡ value.List y → compare (value_of a) (value_of b) ≡ slice_cmp value_cmp x y
  unfolding compare
  both_List x y e f = ap₂ compare (ap value_of e ∙ value_of-List x) (ap value_of f ∙ value_of-List y) ∙ cmp_values x y

  pub both_Pairs : (x y : List (Value × Value)) → a ≡ value.Pairs x → b ≡ value.Pairs y → compare (value_of a) (value_of b) ≡ slice_cmp pair_cmp x y
  unfolding compare
  both_Pairs x y e f = ap₂ compare (ap value_of e ∙ value_of-Pairs x) (ap value_of f ∙ value_of-Pairs y) ∙ cmp_pairs x y

  pub both_Cell : (x y : Tree) → a ≡ value.Cell x → b ≡ value.Cell y → compare (value_of a) (value_of b) ≡ compare_trees (tree_of x) (tree_of y)
  unfolding compare
  both_Cell x y e f = ap₂ compare (ap value_of e ∙ value_of-Cell x) (ap value_of f ∙ value_of-Cell y)

  -- where the kinds differ, they decide
  by_kind : (u v : family.Value) → value_of a ≡ u → value_of b ≡ v → compare u v ≡ nat_cmp (rank u) (rank v) → compare (value_of a) (value_of b) ≡ nat_cmp (rank (value_of a)) (rank (value_of b))
  by_kind u v e f h = rw (e, f) h

  pub left_Nil : a ≡ value.Nil → nat_cmp (rank (value_of a)) (rank (value_of b)) ≡ compare (value_of a) (value_of b)
  unfolding compare
  left_Nil e = sym (go (value_of b) refl)
    where
      go : (v : family.Value) → value_of b ≡ v → compare (value_of a) (value_of b) ≡ nat_cmp (rank (value_of a)) (rank (value_of b))
      go family.Nil f = by_kind family.Nil family.Nil (ap value_of e ∙ value_of-Nil) f refl
      go v f = by_kind family.Nil v (ap value_of e ∙ value_of-Nil) f refl

  pub left_Num : (x : ℤ) → a ≡ value.Num x → ((y : ℤ) → b ≡ value.Num y → ⊥) → nat_cmp (rank (value_of a)) (rank (value_of b)) ≡ compare (value_of a) (value_of b)
  unfolding compare
  left_Num x e other = sym (go (out-Value b) (sym (roll-out-Value b)))
    where
      go : (layer : Value-F Tree Value KeyedTree) → b ≡ roll-Value layer → compare (value_of a) (value_of b) ≡ nat_cmp (rank (value_of a)) (rank (value_of b))
      go (Value-F.Num y) f = absurd (other y (f ∙ value.rolls-Num y))
      go layer f = by_kind (family.Num x) (value_step (value_image layer)) (ap value_of e ∙ value_of-Num x) (ap value_of f ∙ value_rolls layer) refl

  pub left_Bytes : (x : List ℕ) → a ≡ value.Bytes x → ((y : List ℕ) → b ≡ value.Bytes y → ⊥) → nat_cmp (rank (value_of a)) (rank (value_of b)) ≡ compare (value_of a) (value_of b)
  unfolding compare
  left_Bytes x e other = sym (go (out-Value b) (sym (roll-out-Value b)))
    where
      go : (layer : Value-F Tree Value KeyedTree) → b ≡ roll-Value layer → compare (value_of a) (value_of b) ≡ nat_cmp (rank (value_of a)) (rank (value_of b))
      go (Value-F.Bytes y) f = absurd (other y (f ∙ value.rolls-Bytes y))
      go layer f = by_kind (family.Bytes x) (value_step (value_image layer)) (ap value_of e ∙ value_of-Bytes x) (ap value_of f ∙ value_rolls layer) refl

  pub left_List : (x : List Value) → a ≡ value.List x → ((y : List Value) → b ≡ value.List y → ⊥) → nat_cmp (rank (value_of a)) (rank (value_of b)) ≡ compare (value_of a) (value_of b)
  unfolding compare
  left_List x e other = sym (go (out-Value b) (sym (roll-out-Value b)))
    where
      go : (layer : Value-F Tree Value KeyedTree) → b ≡ roll-Value layer → compare (value_of a) (value_of b) ≡ nat_cmp (rank (value_of a)) (rank (value_of b))
      go (Value-F.List y) f = absurd (other y (f ∙ value.rolls-List y))
      go layer f = by_kind (family.list_value (map value_of x)) (value_step (value_image layer)) (ap value_of e ∙ value_of-List x) (ap value_of f ∙ value_rolls layer) refl

  pub left_Pairs : (x : List (Value × Value)) → a ≡ value.Pairs x → ((y : List (Value × Value)) → b ≡ value.Pairs y → ⊥) → nat_cmp (rank (value_of a)) (rank (value_of b)) ≡ compare (value_of a) (value_of b)
  unfolding compare
  left_Pairs x e other = sym (go (out-Value b) (sym (roll-out-Value b)))
    where
      go : (layer : Value-F Tree Value KeyedTree) → b ≡ roll-Value layer → compare (value_of a) (value_of b) ≡ nat_cmp (rank (value_of a)) (rank (value_of b))
      go (Value-F.Pairs y) f = absurd (other y (f ∙ value.rolls-Pairs y))
      go layer f = by_kind (family.map_value (map (λ e. (value_of e.0, value_of e.1)) x)) (value_step (value_image layer)) (ap value_of e ∙ value_of-Pairs x) (ap value_of f ∙ value_rolls layer) refl

  pub left_Cell : (x : Tree) → a ≡ value.Cell x → ((y : Tree) → b ≡ value.Cell y → ⊥) → nat_cmp (rank (value_of a)) (rank (value_of b)) ≡ compare (value_of a) (value_of b)
  unfolding compare
  left_Cell x e other = sym (go (out-Value b) (sym (roll-out-Value b)))
    where
      go : (layer : Value-F Tree Value KeyedTree) → b ≡ roll-Value layer → compare (value_of a) (value_of b) ≡ nat_cmp (rank (value_of a)) (rank (value_of b))
      go (Value-F.Cell y) f = absurd (other y (f ∙ value.rolls-Cell y))
      go layer f = by_kind (family.Cell (tree_of x)) (value_step (value_image layer)) (ap value_of e ∙ value_of-Cell x) (ap value_of f ∙ value_rolls layer) refl

pub ruleset value_kinds = (both_Num, both_Bytes, both_List, both_Pairs, both_Cell, left_Nil, left_Num, left_Bytes, left_List, left_Pairs, left_Cell)

-- trees
module _ (a b : Tree) where
  pub both_Word : (x y : ℤ) → a ≡ tree.Word x → b ≡ tree.Word y → compare_trees (tree_of a) (tree_of b) ≡ int_cmp x y
  unfolding compare
  both_Word x y e f = ap₂ compare_trees (ap tree_of e ∙ tree_of-Word x) (ap tree_of f ∙ tree_of-Word y)

  pub both_Tuple : (x y : List Value) → a ≡ tree.Tuple x → b ≡ tree.Tuple y → compare_trees (tree_of a) (tree_of b) ≡ slice_cmp value_cmp x y
  unfolding compare
  both_Tuple x y e f = ap₂ compare_trees (ap tree_of e ∙ tree_of-Tuple x) (ap tree_of f ∙ tree_of-Tuple y) ∙ cmp_values x y

  pub both_Values : (x y : List Value) → a ≡ tree.Values x → b ≡ tree.Values y → compare_trees (tree_of a) (tree_of b) ≡ slice_cmp value_cmp x y
  unfolding compare
  both_Values x y e f = ap₂ compare_trees (ap tree_of e ∙ tree_of-Values x) (ap tree_of f ∙ tree_of-Values y) ∙ cmp_values x y

  pub both_Rows : (x y : List (List Value)) → a ≡ tree.Rows x → b ≡ tree.Rows y → compare_trees (tree_of a) (tree_of b) ≡ slice_cmp (slice_cmp value_cmp) x y
  unfolding compare
  both_Rows x y e f = ap₂ compare_trees (ap tree_of e ∙ tree_of-Rows x) (ap tree_of f ∙ tree_of-Rows y) ∙ cmp_tables x y

  pub both_Events : (x y : List Event) → a ≡ tree.Events x → b ≡ tree.Events y → compare_trees (tree_of a) (tree_of b) ≡ slice_cmp (λ e f. event_cmp (event_of e) (event_of f)) x y
  unfolding compare
  both_Events x y e f = ap₂ compare_trees (ap tree_of e ∙ tree_of-Events x) (ap tree_of f ∙ tree_of-Events y) ∙ cmp_images event_cmp event_of x y

  pub both_Slots : (x y : List Tree) → a ≡ tree.Slots x → b ≡ tree.Slots y → compare_trees (tree_of a) (tree_of b) ≡ slice_cmp tree_cmp x y
  unfolding compare
  both_Slots x y e f = ap₂ compare_trees (ap tree_of e ∙ tree_of-Slots x) (ap tree_of f ∙ tree_of-Slots y) ∙ cmp_slots x y

  pub both_Keyed : (x y : List KeyedTree) → a ≡ tree.Keyed x → b ≡ tree.Keyed y → compare_trees (tree_of a) (tree_of b) ≡ slice_cmp keyed_cmp x y
  unfolding compare
  both_Keyed x y e f = ap₂ compare_trees (ap tree_of e ∙ tree_of-Keyed x) (ap tree_of f ∙ tree_of-Keyed y) ∙ cmp_keyed x y

  by_tree_kind : (u v : family.Tree) → tree_of a ≡ u → tree_of b ≡ v → compare_trees u v ≡ nat_cmp (tree_rank u) (tree_rank v) → compare_trees (tree_of a) (tree_of b) ≡ nat_cmp (tree_rank (tree_of a)) (tree_rank (tree_of b))
  by_tree_kind u v e f h = rw (e, f) h

  pub left_Empty : a ≡ tree.Empty → nat_cmp (tree_rank (tree_of a)) (tree_rank (tree_of b)) ≡ compare_trees (tree_of a) (tree_of b)
  unfolding compare
  left_Empty e = sym (go (tree_of b) refl)
    where
      go : (v : family.Tree) → tree_of b ≡ v → compare_trees (tree_of a) (tree_of b) ≡ nat_cmp (tree_rank (tree_of a)) (tree_rank (tree_of b))
      go family.Empty f = by_tree_kind family.Empty family.Empty (ap tree_of e ∙ tree_of-Empty) f refl
      go v f = by_tree_kind family.Empty v (ap tree_of e ∙ tree_of-Empty) f refl

  pub left_Word : (x : ℤ) → a ≡ tree.Word x → ((y : ℤ) → b ≡ tree.Word y → ⊥) → nat_cmp (tree_rank (tree_of a)) (tree_rank (tree_of b)) ≡ compare_trees (tree_of a) (tree_of b)
  unfolding compare
  left_Word x e other = sym (go (out-Tree b) (sym (roll-out-Tree b)))
    where
      go : (layer : Tree-F Tree Value KeyedTree) → b ≡ roll-Tree layer → compare_trees (tree_of a) (tree_of b) ≡ nat_cmp (tree_rank (tree_of a)) (tree_rank (tree_of b))
      go (Tree-F.Word y) f = absurd (other y (f ∙ tree.rolls-Word y))
      go layer f = by_tree_kind (family.Word x) (tree_step (tree_image layer)) (ap tree_of e ∙ tree_of-Word x) (ap tree_of f ∙ tree_rolls layer) refl

  pub left_Tuple : (x : List Value) → a ≡ tree.Tuple x → ((y : List Value) → b ≡ tree.Tuple y → ⊥) → nat_cmp (tree_rank (tree_of a)) (tree_rank (tree_of b)) ≡ compare_trees (tree_of a) (tree_of b)
  unfolding compare
  left_Tuple x e other = sym (go (out-Tree b) (sym (roll-out-Tree b)))
    where
      go : (layer : Tree-F Tree Value KeyedTree) → b ≡ roll-Tree layer → compare_trees (tree_of a) (tree_of b) ≡ nat_cmp (tree_rank (tree_of a)) (tree_rank (tree_of b))
      go (Tree-F.Tuple y) f = absurd (other y (f ∙ tree.rolls-Tuple y))
      go layer f = by_tree_kind (family.tuple_tree (map value_of x)) (tree_step (tree_image layer)) (ap tree_of e ∙ tree_of-Tuple x) (ap tree_of f ∙ tree_rolls layer) refl

  pub left_Values : (x : List Value) → a ≡ tree.Values x → ((y : List Value) → b ≡ tree.Values y → ⊥) → nat_cmp (tree_rank (tree_of a)) (tree_rank (tree_of b)) ≡ compare_trees (tree_of a) (tree_of b)
  unfolding compare
  left_Values x e other = sym (go (out-Tree b) (sym (roll-out-Tree b)))
    where
      go : (layer : Tree-F Tree Value KeyedTree) → b ≡ roll-Tree layer → compare_trees (tree_of a) (tree_of b) ≡ nat_cmp (tree_rank (tree_of a)) (tree_rank (tree_of b))
      go (Tree-F.Values y) f = absurd (other y (f ∙ tree.rolls-Values y))
      go layer f = by_tree_kind (family.values_tree (map value_of x)) (tree_step (tree_image layer)) (ap tree_of e ∙ tree_of-Values x) (ap tree_of f ∙ tree_rolls layer) refl

  pub left_Rows : (x : List (List Value)) → a ≡ tree.Rows x → ((y : List (List Value)) → b ≡ tree.Rows y → ⊥) → nat_cmp (tree_rank (tree_of a)) (tree_rank (tree_of b)) ≡ compare_trees (tree_of a) (tree_of b)
  unfolding compare
  left_Rows x e other = sym (go (out-Tree b) (sym (roll-out-Tree b)))
    where
      go : (layer : Tree-F Tree Value KeyedTree) → b ≡ roll-Tree layer → compare_trees (tree_of a) (tree_of b) ≡ nat_cmp (tree_rank (tree_of a)) (tree_rank (tree_of b))
      go (Tree-F.Rows y) f = absurd (other y (f ∙ tree.rolls-Rows y))
      go layer f = by_tree_kind (family.rows_tree (map (map value_of) x)) (tree_step (tree_image layer)) (ap tree_of e ∙ tree_of-Rows x) (ap tree_of f ∙ tree_rolls layer) refl

  pub left_Events : (x : List Event) → a ≡ tree.Events x → ((y : List Event) → b ≡ tree.Events y → ⊥) → nat_cmp (tree_rank (tree_of a)) (tree_rank (tree_of b)) ≡ compare_trees (tree_of a) (tree_of b)
  unfolding compare
  left_Events x e other = sym (go (out-Tree b) (sym (roll-out-Tree b)))
    where
      go : (layer : Tree-F Tree Value KeyedTree) → b ≡ roll-Tree layer → compare_trees (tree_of a) (tree_of b) ≡ nat_cmp (tree_rank (tree_of a)) (tree_rank (tree_of b))
      go (Tree-F.Events y) f = absurd (other y (f ∙ tree.rolls-Events y))
      go layer f = by_tree_kind (family.Events (map event_of x)) (tree_step (tree_image layer)) (ap tree_of e ∙ tree_of-Events x) (ap tree_of f ∙ tree_rolls layer) refl

  pub left_Slots : (x : List Tree) → a ≡ tree.Slots x → ((y : List Tree) → b ≡ tree.Slots y → ⊥) → nat_cmp (tree_rank (tree_of a)) (tree_rank (tree_of b)) ≡ compare_trees (tree_of a) (tree_of b)
  unfolding compare
  left_Slots x e other = sym (go (out-Tree b) (sym (roll-out-Tree b)))
    where
      go : (layer : Tree-F Tree Value KeyedTree) → b ≡ roll-Tree layer → compare_trees (tree_of a) (tree_of b) ≡ nat_cmp (tree_rank (tree_of a)) (tree_rank (tree_of b))
      go (Tree-F.Slots y) f = absurd (other y (f ∙ tree.rolls-Slots y))
      go layer f = by_tree_kind (family.slots_tree (map tree_of x)) (tree_step (tree_image layer)) (ap tree_of e ∙ tree_of-Slots x) (ap tree_of f ∙ tree_rolls layer) refl

  pub left_Keyed : (x : List KeyedTree) → a ≡ tree.Keyed x → ((y : List KeyedTree) → b ≡ tree.Keyed y → ⊥) → nat_cmp (tree_rank (tree_of a)) (tree_rank (tree_of b)) ≡ compare_trees (tree_of a) (tree_of b)
  unfolding compare
  left_Keyed x e other = sym (go (out-Tree b) (sym (roll-out-Tree b)))
    where
      go : (layer : Tree-F Tree Value KeyedTree) → b ≡ roll-Tree layer → compare_trees (tree_of a) (tree_of b) ≡ nat_cmp (tree_rank (tree_of a)) (tree_rank (tree_of b))
      go (Tree-F.Keyed y) f = absurd (other y (f ∙ tree.rolls-Keyed y))
      go layer f = by_tree_kind (family.keyed_tree (map entry_of x)) (tree_step (tree_image layer)) (ap tree_of e ∙ tree_of-Keyed x) (ap tree_of f ∙ tree_rolls layer) refl

pub ruleset tree_kinds = (both_Word, both_Tuple, both_Values, both_Rows, both_Events, both_Slots, both_Keyed, left_Empty, left_Word, left_Tuple, left_Values, left_Rows, left_Events, left_Slots, left_Keyed)

-- where the lists are alike as far as the shorter reaches, their lengths decide
lt_less : (m n : ℕ) → m < n → nat_cmp m n ≡ Less
lt_less m n l = go (nat_cmp m n) refl
  where
    go : (o : Ordering) → nat_cmp m n ≡ o → nat_cmp m n ≡ Less
    go Less e = e
    go Equal e = let r : m ≡ n = ranked m n Equal (sym e) in absurd (omega arith)
    go Greater e = let r : n < m = ranked m n Greater (sym e) in absurd (omega arith)

shifted : (a b c d i : ℕ) → a ≡ c + i → b ≡ d + i → nat_cmp a b ≡ nat_cmp c d
shifted a b c d i e f = go (nat_cmp c d) refl
  where
    level : (n : ℕ) → nat_cmp n n ≡ Equal
    level n = go (nat_cmp n n) refl
      where
        go : (o : Ordering) → nat_cmp n n ≡ o → nat_cmp n n ≡ Equal
        go Less e = let r : n < n = ranked n n Less (sym e) in absurd (omega arith)
        go Equal e = e
        go Greater e = let r : n < n = ranked n n Greater (sym e) in absurd (omega arith)

    go : (o : Ordering) → nat_cmp c d ≡ o → nat_cmp a b ≡ nat_cmp c d
    go Less g = let r : c < d = ranked c d Less (sym g) in lt_less a b (omega arith) ∙ sym g
    go Equal g = let r : c ≡ d = ranked c d Equal (sym g) in let same : a ≡ b = omega arith in ap₂ nat_cmp same refl ∙ level b ∙ sym g
    go Greater g = let r : d < c = ranked c d Greater (sym g) in nat_cmp_total.antisymm a b ∙ ap ordering_reverse (lt_less b a (omega arith)) ∙ sym g

ended : {A : Type 0} (cmp : A → A → Ordering) (xs ys : List A) → (length xs ≡ 0) ⊎ (length ys ≡ 0) → nat_cmp (length xs) (length ys) ≡ slice_cmp cmp xs ys
ended cmp [] [] e = refl
ended cmp [] (y ∷ ys) e = lt_less 0 (suc (length ys)) (omega arith)
ended cmp (x ∷ xs) [] e = nat_cmp_total.antisymm (suc (length xs)) 0 ∙ ap ordering_reverse (lt_less 0 (suc (length xs)) (omega arith))
ended cmp (x ∷ xs) (y ∷ ys) (inl e) = absurd (omega arith)
ended cmp (x ∷ xs) (y ∷ ys) (inr e) = absurd (omega arith)

pub ends : {A : Type 0} (cmp : A → A → Ordering) (xs ys : List A) (i : ℕ) (o : Ordering) → slice_cmp cmp (drop i xs) (drop i ys) ≡ slice_cmp cmp xs ys → i ≤ min (length xs) (length ys) → min (length xs) (length ys) ≤ i → o ≡ nat_cmp (length xs) (length ys) → o ≡ slice_cmp cmp xs ys
ends cmp xs ys i o same l m e =
    e ∙ shifted (length xs) (length ys) (length (drop i xs)) (length (drop i ys)) i (omega (arith, length-drop i xs)) (omega (arith, length-drop i ys))
    ∙ ended cmp (drop i xs) (drop i ys) (go (cases_lt (length xs) (length ys)))
    ∙ same
  where
    go : (length xs < length ys) ⊎ (length ys ≤ length xs) → (length (drop i xs) ≡ 0) ⊎ (length (drop i ys) ≡ 0)
    go (inl h) = inl (omega (arith, length-drop i xs))
    go (inr h) = inr (omega (arith, length-drop i ys))
