-- The state of uniqExact, and what it stands for.
use Rattle.std.proofs.Common.{◌≡◌, ℕ, ◌<◌, ◌^◌, ◌%◌, Bool, true, not, List, [], ◌∷◌, ◌++◌, length, pos, refl, sym, ap, ◌∙◌, subst, arith, map, mod-eq_of_lt, nat_lt}
use Rattle.std.specs.Prelude.{filter}
use Rattle.std.proofs.lemmas.List.Elements.{filter-append}
use Rattle.std.proofs.lemmas.Simd.{map-map}
use Rattle.agg_terms.specs.Chains.{Leaf, Of, Ty, UniqExact, Whole}
use Rattle.agg_terms.specs.Lists.{is_empty}
use Rattle.agg_terms.specs.Order.{compare_rows, different}
use Rattle.agg_terms.specs.Trees.{IsLeafTree}
use Rattle.agg_terms.specs.Values.{Num, Tree, Value, rows_of, rows_tree}
use Rattle.agg_terms.proofs.Lists.{table_back}
use Rattle.agg_meaning.specs.Feeds.{no_null}
use Rattle.agg_meaning.specs.Functions.{leaf_normal}
use Rattle.agg_meaning.specs.States.{Held, IsFedBy, Means, Stands, TakesRow, TakesState}
use Rattle.agg_meaning.specs.Suffixes.{meaning}
use Rattle.agg_meaning.proofs.LeafTrees.{different_rising}
use Rattle.value_types.specs.Folds.{value_of}
use Rattle.value_types.specs.declared.value.Value as coded
use Rattle.typed_columns.specs.Items.{item_value}
use Rattle.typed_columns.specs.declared.item.Item.{Item}
use Rattle.set_leaves.specs.proving.Orders.{rows_full}
use Rattle.set_leaves.specs.Sets.{set_held}
use Rattle.set_leaves.specs.Tuples.{SameSet, argument}
use Rattle.set_leaves.proofs.SetLaws.{is_empty-different, sets_join}

pub fresh_stands : (n : ℕ) (f : Leaf) (ts : List Ty) (K : List (List Value)) → f ≡ UniqExact → n ≡ length ts → K ≡ [] → Stands f ts [] (set_held n K)
fresh_stands n f ts K e l k =
    subst (λ g. Stands g ts [] (set_held n K)) (sym e)
    (ap (λ m. record { leaf = UniqExact; result = Whole 64; arguments = m }) l, ap (λ J. rows_tree (different compare_rows J)) k)

module _ (n : ℕ) (K : List (List Value)) (f : Leaf) (ts : List Ty) (L : List (List Value)) (a : Stands f ts L (set_held n K)) where
  pub is_set : UniqExact ≡ f
  is_set = ap (λ m. m.leaf) a.0

  tree : rows_tree (different compare_rows K) ≡ rows_tree (different compare_rows (filter no_null L))
  tree = subst (λ g. rows_tree (different compare_rows K) ≡ leaf_normal g ts (filter no_null L)) (sym is_set) a.1

  -- a state that stands for rows has the different ones of them
  pub at_rows : SameSet K (filter no_null L)
  at_rows =
      sym (table_back (different compare_rows K)) ∙ ap rows_of tree ∙ table_back (different compare_rows (filter no_null L))

live_row : (r : List Value) → no_null r ≡ true → filter no_null (r ∷ []) ≡ r ∷ []
live_row r live = rw live

pub row_taken : (n : ℕ) (K J : List (List Value)) (r : List Value) → SameSet J (K ++ r ∷ []) → TakesRow (set_held n K) r (set_held n J)
row_taken n K J r e f ts L g v live a =
    (a.0, subst (λ h. rows_tree (different compare_rows J) ≡ leaf_normal h ts (filter no_null (L ++ r ∷ []))) (is_set n K f ts L a) (ap rows_tree whole))
  where
    whole : different compare_rows J ≡ different compare_rows (filter no_null (L ++ r ∷ []))
    whole =
        e
        ∙ sets_join compare_rows rows_full K (filter no_null L) (r ∷ []) (filter no_null (r ∷ [])) (at_rows n K f ts L a) (ap (different compare_rows) (sym (live_row r live)))
        ∙ ap (different compare_rows) (sym (filter-append no_null L (r ∷ [])))

pub rows_taken : (n m : ℕ) (K J M : List (List Value)) → SameSet M (K ++ J) → TakesState (set_held n K) (set_held m J) (set_held n M)
rows_taken n m K J M e f ts A B a b =
    (a.0, subst (λ h. rows_tree (different compare_rows M) ≡ leaf_normal h ts (filter no_null (A ++ B))) (is_set n K f ts A a) (ap rows_tree whole))
  where
    whole : different compare_rows M ≡ different compare_rows (filter no_null (A ++ B))
    whole =
        e
        ∙ sets_join compare_rows rows_full K (filter no_null A) J (filter no_null B) (at_rows n K f ts A a) (at_rows m J f ts B b)
        ∙ ap (different compare_rows) (sym (filter-append no_null A B))

-- a row of items is the row of their values
pub items_taken : (s t : Held) (items : List Item) (r : List coded.Value) → map item_value items ≡ r → TakesRow s (map argument items) t → TakesRow s (map value_of r) t
items_taken s t items r e h = subst (λ l. TakesRow s l t) (sym (map-map value_of item_value items) ∙ ap (map value_of) e) h

pub count_means : (n : ℕ) (K : List (List Value)) (count : ℕ) (v : Value) → v ≡ Num (pos count) → count ≡ length (different compare_rows K) → count < 2 ^ 63 → Means (set_held n K) v
count_means n K count v e c l f ts L g a =
    e
    ∙ ap (λ x. Num (pos x)) (sym (mod-eq_of_lt below) ∙ ap (λ x. x % 2 ^ 64) (c ∙ ap length (at_rows n K f ts L a)))
    ∙ ap (λ h. meaning (Of h) ts L) (is_set n K f ts L a)
  where
    below : count < 2 ^ 64
    below = omega arith

pub fed_known : (n : ℕ) (K : List (List Value)) (count : ℕ) (b : Bool) → b ≡ nat_lt 0 count → count ≡ length (different compare_rows K) → IsFedBy (set_held n K) b
fed_known n K count b e c f ts L a =
    e ∙ ap (nat_lt 0) (c ∙ ap length (at_rows n K f ts L a)) ∙ some (different compare_rows (filter no_null L)) ∙ ap not (is_empty-different compare_rows rows_full (filter no_null L))
  where
    some : (xs : List (List Value)) → nat_lt 0 (length xs) ≡ not (is_empty xs)
    some [] = refl
    some (x ∷ xs) = grind arith

-- a stored tree
pub tree_back : (f : Leaf) (ts : List Ty) (t : Tree) (K : List (List Value)) → f ≡ UniqExact → SameSet K (rows_of t) → IsLeafTree f ts t → rows_tree (different compare_rows K) ≡ t
tree_back f ts t K e s h = back (subst (λ g. IsLeafTree g ts t) e h)
  where
    back : IsLeafTree UniqExact ts t → rows_tree (different compare_rows K) ≡ t
    back k =
        ap rows_tree (s ∙ ap (λ u. different compare_rows (rows_of u)) k.1 ∙ ap (different compare_rows) (table_back k.0) ∙ different_rising compare_rows k.0 k.3) ∙ sym k.1
