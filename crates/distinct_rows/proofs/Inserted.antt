-- A row inserted behind rows that are each the first of its kind.
use Rattle.std.proofs.Common.{◌≡◌, ℕ, zero, suc, ◌+◌, ◌<◌, ◌≤◌, Bool, true, false, ◌||◌, if◌then◌else◌, true≢false, inl, inr, List, [], ◌∷◌, ◌++◌, map, take, length, get_or, refl, sym, ap, ◌∙◌, arith, append_assoc}
use Rattle.std.specs.List.{list_any}
use Rattle.std.specs.Ordering.{eq_by_cmp, is_eq}
use Rattle.std.proofs.lemmas.List.{map-append, take_all}
use Rattle.indexmap.specs.IndexSet.{insert_key}
use Rattle.agg_terms.specs.Lists.{Among}
use Rattle.agg_terms.specs.Order.{before_others, compare_rows, firsts}
use Rattle.agg_terms.specs.Values as family
use Rattle.agg_terms.proofs.Comparing.{rows_order}
use Rattle.agg_terms.proofs.Ordered.{firsts_add_last, firsts_leave_out}
use Rattle.agg_terms.proofs.Sorting.{firsts_steady, itself, steady_joins}
use Rattle.int_leaves.specs.Rows.{argument}
use Rattle.set_leaves.specs.proving.Orders.{rows_full, values_same}
use Rattle.set_leaves.specs.Tuples.{values_cmp, values_tuple}
use Rattle.set_leaves.specs.declared.tuple.Tuple.{Tuple}
use Rattle.typed_columns.specs.Items.{item_value}
use Rattle.typed_columns.specs.declared.item.Item.{Item}
use Rattle.value_types.specs.Folds.{value_of}
use Rattle.value_types.specs.declared.value.Value.{Value}
use Rattle.distinct_rows.specs.Rows.{AreFirsts}

abbrev row_in : Tuple → List family.Value
row_in t = values_tuple t.values

abbrev same : Tuple → Tuple → Bool
same a b = eq_by_cmp values_cmp a.values b.values

-- a tuple that is there, and one that isn't
there : (k : Tuple) (ks : List Tuple) → list_any (same k) ks ≡ true → Among (row_in k) (map row_in ks)
there k [] h = absurd (true≢false (sym h))
there k (x ∷ ks) h = go (same k x) refl h (there k ks)
  where
    go : (b : Bool) → same k x ≡ b → (b || list_any (same k) ks) ≡ true → (list_any (same k) ks ≡ true → Among (row_in k) (map row_in ks)) → Among (row_in k) (map row_in (x ∷ ks))
    go true e h f = inl (values_same k.values x.values e)
    go false e h f = inr (f h)

among : (k : Tuple) (ks : List Tuple) → Among (row_in k) (map row_in ks) → list_any (same k) ks ≡ true
among k [] h = absurd h
among k (x ∷ ks) (inl e) = ap (λ o. is_eq o || list_any (same k) ks) (ap (compare_rows (row_in k)) (sym e) ∙ itself compare_rows rows_order (row_in k))
among k (x ∷ ks) (inr h) = go (same k x) (among k ks h)
  where
    go : (b : Bool) → list_any (same k) ks ≡ true → (b || list_any (same k) ks) ≡ true
    go true e = refl
    go false e = e

pub inserted : (ks : List Tuple) (k : Tuple) (r : List family.Value) → row_in k ≡ r → AreFirsts (map row_in ks) → map row_in (insert_key same ks k) ≡ firsts compare_rows (map row_in ks ++ r ∷ [])
inserted ks k r e once = go (list_any (same k) ks) refl ∙ ap (λ z. firsts compare_rows (map row_in ks ++ z ∷ [])) e
  where
    go : (b : Bool) → list_any (same k) ks ≡ b → map row_in (if b then ks else ks ++ k ∷ []) ≡ firsts compare_rows (map row_in ks ++ row_in k ∷ [])
    go true h = sym (firsts_leave_out compare_rows rows_full (row_in k) (map row_in ks) (there k ks h) ∙ once)
    go false h =
        map-append row_in ks (k ∷ [])
        ∙ sym (firsts_add_last compare_rows rows_full (row_in k) (map row_in ks) (λ a. true≢false (sym (among k ks a) ∙ h)) ∙ ap (λ z. z ++ row_in k ∷ []) once)

-- rows behind rows
pub are_firsts : (rs : List (List family.Value)) → AreFirsts (firsts compare_rows rs)
are_firsts rs = firsts_steady compare_rows rows_order [] rs

pub firsts_more : (rs qs : List (List family.Value)) → firsts compare_rows (firsts compare_rows rs ++ qs) ≡ firsts compare_rows (rs ++ qs)
firsts_more rs qs = steady_joins (before_others compare_rows) (firsts_steady compare_rows rows_order) (firsts compare_rows rs) rs qs qs (are_firsts rs) refl

next_map : {X Y : Type 0} (f : X → Y) (xs : List X) (i : ℕ) (x : X) → i < length xs → x ≡ get_or xs i x → map f (take (suc i) xs) ≡ map f (take i xs) ++ f x ∷ []
next_map f [] i x l e = absurd (omega arith)
next_map f (y ∷ xs) zero x l e = ap (λ z. f z ∷ []) (sym e)
next_map f (y ∷ xs) (suc i) x l e = ap (◌∷◌ (f y)) (next_map f xs i x (omega arith) e)

pub map_next : {X Y : Type 0} (f : X → Y) (xs : List X) (i : ℕ) (x : X) → i < length xs → x ≡ get_or xs i x → map f (take (i + 1) xs) ≡ map f (take i xs) ++ f x ∷ []
map_next f xs i x l e = let n : i + 1 ≡ suc i = omega arith in ap (λ k. map f (take k xs)) n ∙ next_map f xs i x l e

-- one row more of some that are seen as rows
pub more : {X : Type 0} (seen : X → List family.Value) (rs : List (List family.Value)) (xs : List X) (i : ℕ) (x : X) (r : List family.Value) (now after : List (List family.Value)) → i < length xs → x ≡ get_or xs i x → r ≡ seen x →
    now ≡ firsts compare_rows (rs ++ map seen (take i xs)) → after ≡ firsts compare_rows (now ++ r ∷ []) → after ≡ firsts compare_rows (rs ++ map seen (take (i + 1) xs))
more seen rs xs i x r now after l e q h a =
    a ∙ ap (λ z. firsts compare_rows (z ++ r ∷ [])) h ∙ firsts_more (rs ++ map seen (take i xs)) (r ∷ [])
    ∙ ap (firsts compare_rows) (append_assoc rs (map seen (take i xs)) (r ∷ []))
    ∙ ap (λ z. firsts compare_rows (rs ++ z)) (ap (λ z. map seen (take i xs) ++ z ∷ []) q ∙ sym (map_next seen xs i x l e))

-- a row's own values
map_twice : {X Y Z : Type 0} (f : Y → Z) (g : X → Y) (xs : List X) → map f (map g xs) ≡ map (λ x. f (g x)) xs
map_twice f g [] = refl
map_twice f g (x ∷ xs) = ap (◌∷◌ (f (g x))) (map_twice f g xs)

pub owned : (row : List Item) (i : ℕ) (values : List Value) → values ≡ map item_value (take i row) → length row ≤ i → map value_of values ≡ map argument row
owned row i values e l = ap (map value_of) (e ∙ ap (map item_value) (take_all i row l)) ∙ map_twice value_of item_value row
