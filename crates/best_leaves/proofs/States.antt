-- What a state stands for: after a row, after a merge, and what it means.
use Rattle.std.proofs.Common.{◌≡◌, Bool, true, false, not, cond, List, [], ◌∷◌, ◌++◌, map, Option, Some, None, refl, sym, ap, ◌∙◌, subst, inl, inr}
use Rattle.std.specs.Prelude.{filter}
use Rattle.std.specs.Prelude.{is_some}
use Rattle.std.proofs.lemmas.List.Elements.{filter-append}
use Rattle.std.proofs.lemmas.Simd.{map-map}
use Rattle.agg_terms.specs.Chains as leaf
use Rattle.agg_terms.specs.Chains.{Leaf, Of, Ty}
use Rattle.agg_terms.specs.Lists.{is_empty}
use Rattle.agg_terms.specs.Order.{best}
use Rattle.agg_terms.specs.Trees.{IsTree, one_tree, pair_tree}
use Rattle.agg_terms.specs.Values.{Tree, Value}
use Rattle.agg_meaning.specs.Feeds.{no_null}
use Rattle.agg_meaning.specs.Functions.{arg_val, leaf_meaning, leaf_normal, option_first, or_nothing, the_arg}
use Rattle.agg_meaning.specs.Results.{default, nullable_if}
use Rattle.agg_meaning.specs.States.{Held, IsFedBy, Means, Stands, TakesRow, TakesState, made_for}
use Rattle.value_types.specs.Folds.{value_of}
use Rattle.value_types.specs.declared.value.Value as coded
use Rattle.typed_columns.specs.Items.{item_value}
use Rattle.typed_columns.specs.declared.item.Item.{Item}
use Rattle.best_leaves.specs.Best.{beats_kept, compared_of, kept_of, kept_tree, kept_value, pairs, pair_of, tree_kept, with_later}
use Rattle.best_leaves.specs.Made.{function_leaf, kind_ty, made_of}
use Rattle.best_leaves.specs.Rows.{argument}
use Rattle.best_leaves.specs.declared.best.Best.{Best}
use Rattle.best_leaves.specs.declared.function.Function.{Function}
use Rattle.best_leaves.specs.declared.function.Function.TheVariants.{ArgMax, ArgMin, Max, Min}
use Rattle.best_leaves.specs.declared.made.Made.{Made}
use Rattle.best_leaves.proofs.Bests.{IsBestOf, joined_best, joined_kept, known, none_best, one_back, pair_back, row_best, tree_is}

abbrev pub held_with : Made → Option (Value × Value) → Held
held_with m kept = record { made = made_of m; tree = kept_tree m.function kept }

-- the rows that a state stands for, and a state that stands for rows
rows_known : (m : Made) (kept : Option (Value × Value)) (f : Leaf) (ts : List Ty) (L : List (List Value)) → Stands f ts L (held_with m kept) → IsBestOf m.function (filter no_null L) kept
rows_known m kept f ts L a =
    known m.function ts (filter no_null L) kept (a.1 ∙ ap (λ g. leaf_normal g ts (filter no_null L)) (sym (ap (λ k. k.leaf) a.0)))

stands_for : (m : Made) (kept : Option (Value × Value)) (f : Leaf) (ts : List Ty) (L : List (List Value)) → made_of m ≡ made_for f ts → IsBestOf m.function (filter no_null L) kept → Stands f ts L (held_with m kept)
stands_for m kept f ts L e b =
    (e, tree_is m.function ts (filter no_null L) kept b ∙ ap (λ g. leaf_normal g ts (filter no_null L)) (ap (λ k. k.leaf) e))

pub fresh_stands : (m : Made) (f : Leaf) (ts : List Ty) → made_of m ≡ made_for f ts → Stands f ts [] (held_with m None)
fresh_stands m f ts e = stands_for m None f ts [] e (none_best m.function)

-- a function is known by what it is in the definitions
abbrev function_at : Leaf → Function
function_at leaf.Min = Min
function_at leaf.Max = Max
function_at leaf.ArgMin = ArgMin
function_at _ = ArgMax

function_back : (w : Function) → function_at (function_leaf w) ≡ w
function_back Min = refl
function_back Max = refl
function_back ArgMin = refl
function_back ArgMax = refl

same_function : (m n : Made) (f : Leaf) (ts : List Ty) → made_of m ≡ made_for f ts → made_of n ≡ made_for f ts → n.function ≡ m.function
same_function m n f ts a b = sym (function_back n.function) ∙ ap (λ k. function_at k.leaf) (b ∙ sym a) ∙ function_back m.function

-- later rows behind
joined_stands : (m n : Made) (k l : Option (Value × Value)) → TakesState (held_with m k) (held_with n l) (held_with m (joined_kept m.function k l))
joined_stands m n k l f ts A B a b =
    stands_for m (joined_kept m.function k l) f ts (A ++ B) a.0
    (subst (λ L. IsBestOf m.function L (joined_kept m.function k l)) (sym (filter-append no_null A B))
    (joined_best m.function (filter no_null A) (filter no_null B) k l (rows_known m k f ts A a)
    (subst (λ w. IsBestOf w (filter no_null B) l) (same_function m n f ts a.0 b.0) (rows_known n l f ts B b))))

row_stands : (m : Made) (k : Option (Value × Value)) (r : List Value) → TakesRow (held_with m k) r (held_with m (with_later m.function k (kept_of m.function r)))
row_stands m k r f ts L g v live a =
    stands_for m (with_later m.function k (kept_of m.function r)) f ts (L ++ r ∷ []) a.0
    (subst (λ R. IsBestOf m.function R (with_later m.function k (kept_of m.function r))) (sym (filter-append no_null L (r ∷ []) ∙ ap (λ R. filter no_null L ++ R) alive))
    (joined_best m.function (filter no_null L) (r ∷ []) k (Some (kept_of m.function r)) (rows_known m k f ts L a) (row_best m.function r)))
  where
    alive : filter no_null (r ∷ []) ≡ r ∷ []
    alive = rw live

-- as the code has it: a row, or a later state's, that beats or does not
module _ (m : Made) (k : Option Best) (b : Bool) where
  pub row_stays : (r : List Value) → b ≡ beats_kept m.function (kept_of m.function r).1 (pairs k) → b ≡ false → TakesRow (held_with m (pairs k)) r (held_with m (pairs k))
  row_stays r e f =
      subst (λ z. TakesRow (held_with m (pairs k)) r (held_with m z)) (ap (λ c. cond c (Some (kept_of m.function r)) (pairs k)) (sym e ∙ f)) (row_stands m (pairs k) r)

  pub row_kept : (r : List Value) (n : Best) → b ≡ beats_kept m.function (kept_of m.function r).1 (pairs k) → b ≡ true → pair_of n ≡ kept_of m.function r → TakesRow (held_with m (pairs k)) r (held_with m (pairs (Some n)))
  row_kept r n e f h =
      subst (λ z. TakesRow (held_with m (pairs k)) r (held_with m z)) (ap (λ c. cond c (Some (kept_of m.function r)) (pairs k)) (sym e ∙ f) ∙ ap Some (sym h)) (row_stands m (pairs k) r)

  pub later_stays : (n : Made) (later : Option Best) (l : Best) → later ≡ Some l → b ≡ beats_kept m.function (pair_of l).1 (pairs k) → b ≡ false → TakesState (held_with m (pairs k)) (held_with n (pairs later)) (held_with m (pairs k))
  later_stays n later l h e f =
      subst (λ u. TakesState (held_with m (pairs k)) (held_with n (pairs u)) (held_with m (pairs k))) (sym h)
      (subst (λ z. TakesState (held_with m (pairs k)) (held_with n (pairs (Some l))) (held_with m z)) (ap (λ c. cond c (Some (pair_of l)) (pairs k)) (sym e ∙ f)) (joined_stands m n (pairs k) (pairs (Some l))))

  pub later_kept : (n : Made) (later : Option Best) (l d : Best) → later ≡ Some l → b ≡ beats_kept m.function (pair_of l).1 (pairs k) → b ≡ true → d ≡ l → TakesState (held_with m (pairs k)) (held_with n (pairs later)) (held_with m (pairs (Some d)))
  later_kept n later l d h e f q =
      subst (λ u. TakesState (held_with m (pairs k)) (held_with n (pairs u)) (held_with m (pairs (Some d)))) (sym h)
      (subst (λ z. TakesState (held_with m (pairs k)) (held_with n (pairs (Some l))) (held_with m z)) (ap (λ c. cond c (Some (pair_of l)) (pairs k)) (sym e ∙ f) ∙ ap (λ z. pairs (Some z)) (sym q)) (joined_stands m n (pairs k) (pairs (Some l))))

pub none_later : (m n : Made) (k later : Option Best) → later ≡ None → TakesState (held_with m (pairs k)) (held_with n (pairs later)) (held_with m (pairs k))
none_later m n k later h =
    subst (λ u. TakesState (held_with m (pairs k)) (held_with n (pairs u)) (held_with m (pairs k))) (sym h) (joined_stands m n (pairs k) None)

-- a row of items is the row of their values
pub items_taken : (s t : Held) (items : List Item) (r : List coded.Value) → map item_value items ≡ r → TakesRow s (map argument items) t → TakesRow s (map value_of r) t
items_taken s t items r e h = subst (λ l. TakesRow s l t) (sym (map-map value_of item_value items) ∙ ap (map value_of) e) h

-- what a state means
compared_value : (nothing : Value) (k : Option (Value × Value)) → kept_value Min nothing k ≡ or_nothing nothing (compared_of k)
compared_value nothing None = refl
compared_value nothing (Some p) = refl

greatest_value : (nothing : Value) (k : Option (Value × Value)) → kept_value Max nothing k ≡ or_nothing nothing (compared_of k)
greatest_value nothing None = refl
greatest_value nothing (Some p) = refl

beside_value : (nothing : Value) (k : Option (Value × Value)) → kept_value ArgMin nothing k ≡ or_nothing nothing (option_first k)
beside_value nothing None = refl
beside_value nothing (Some p) = refl

last_value : (nothing : Value) (k : Option (Value × Value)) → kept_value ArgMax nothing k ≡ or_nothing nothing (option_first k)
last_value nothing None = refl
last_value nothing (Some p) = refl

value_is : (w : Function) (ts : List Ty) (nothing : Value) (L : List (List Value)) (k : Option (Value × Value)) → IsBestOf w L k → kept_value w nothing k ≡ leaf_meaning (function_leaf w) ts nothing L
value_is Min ts nothing L k h = compared_value nothing k ∙ ap (or_nothing nothing) h
value_is Max ts nothing L k h = greatest_value nothing k ∙ ap (or_nothing nothing) h
value_is ArgMin ts nothing L k h = beside_value nothing k ∙ ap (λ o. or_nothing nothing (option_first o)) h
value_is ArgMax ts nothing L k h = last_value nothing k ∙ ap (λ o. or_nothing nothing (option_first o)) h

pub value_means : (m : Made) (k : Option (Value × Value)) (v : Value) → v ≡ kept_value m.function (default (nullable_if m.nullable (kind_ty m.kind))) k → Means (held_with m k) v
value_means m k v e f ts L g a =
    e
    ∙ value_is m.function ts (default (nullable_if m.nullable (kind_ty m.kind))) (filter no_null L) k (rows_known m k f ts L a)
    ∙ ap (λ d. leaf_meaning d.leaf ts (default d.result) (filter no_null L)) a.0

-- whether a row reached the function
best_fed : {R X : Type 0} (beats : X → X → Bool) (f : R → X) (L : List R) → is_some (best beats (map f L)) ≡ not (is_empty L)
best_fed beats f [] = refl
best_fed beats f (r ∷ L) = refl

compared_fed : (k : Option (Value × Value)) → is_some k ≡ is_some (compared_of k)
compared_fed None = refl
compared_fed (Some p) = refl

fed_is : (w : Function) (L : List (List Value)) (k : Option (Value × Value)) → IsBestOf w L k → is_some k ≡ not (is_empty L)
fed_is Min L k h = compared_fed k ∙ ap is_some h ∙ best_fed _ the_arg L
fed_is Max L k h = compared_fed k ∙ ap is_some h ∙ best_fed _ the_arg L
fed_is ArgMin L k h = ap is_some h ∙ best_fed _ arg_val L
fed_is ArgMax L k h = ap is_some h ∙ best_fed _ arg_val L

pairs_fed : (k : Option Best) → is_some k ≡ is_some (pairs k)
pairs_fed None = refl
pairs_fed (Some b) = refl

pub fed_told : (m : Made) (k : Option Best) → IsFedBy (held_with m (pairs k)) (is_some k)
fed_told m k f ts L a = pairs_fed k ∙ fed_is m.function (filter no_null L) (pairs k) (rows_known m (pairs k) f ts L a)

-- the state with a tree
one_tree_back : (o : Option Value) (t : Tree) → t ≡ one_tree o → one_tree (compared_of (tree_kept Min t)) ≡ t
one_tree_back o t e = ap (λ u. one_tree (compared_of (tree_kept Min u))) e ∙ ap one_tree (one_back o) ∙ sym e

pair_tree_back : (o : Option (Value × Value)) (t : Tree) → t ≡ pair_tree o → pair_tree (tree_kept ArgMin t) ≡ t
pair_tree_back o t e = ap (λ u. pair_tree (tree_kept ArgMin u)) e ∙ ap pair_tree (pair_back o) ∙ sym e

stored_is : (w : Function) (ts : List Ty) (t : Tree) → IsTree (Of (function_leaf w)) ts t → kept_tree w (tree_kept w t) ≡ t
stored_is Min ts t (inl e) = one_tree_back None t e
stored_is Min ts t (inr k) = one_tree_back (Some k.0) t k.1
stored_is Max ts t (inl e) = one_tree_back None t e
stored_is Max ts t (inr k) = one_tree_back (Some k.0) t k.1
stored_is ArgMin ts t (inl e) = pair_tree_back None t e
stored_is ArgMin ts t (inr k) = pair_tree_back (Some k.0) t k.1
stored_is ArgMax ts t (inl e) = pair_tree_back None t e
stored_is ArgMax ts t (inr k) = pair_tree_back (Some k.0) t k.1

pub tree_back : (m : Made) (f : Leaf) (ts : List Ty) (t : Tree) (k : Option Best) → made_of m ≡ made_for f ts → pairs k ≡ tree_kept m.function t → IsTree (Of f) ts t → kept_tree m.function (pairs k) ≡ t
tree_back m f ts t k e h i =
    ap (kept_tree m.function) h ∙ stored_is m.function ts t (subst (λ g. IsTree (Of g) ts t) (sym (ap (λ z. z.leaf) e)) i)
