-- Tests of lists at the images of the code's lists, and of trees at their kind.
use Rattle.std.proofs.Common.{◌≡◌, ◌&&◌, Bool, not, List, [], ◌∷◌, map, refl, ap, ap₂, ◌∙◌}
use Rattle.std.specs.declared.cmp.Ordering.{Ordering}
use Rattle.std.specs.Ordering.{is_eq, is_le, is_lt}
use Rattle.std.proofs.lemmas.List.{length-map}
use Rattle.std.proofs.lemmas.List.Folds.{list_all-map}
use Rattle.agg_terms.specs.Chains as terms
use Rattle.agg_terms.specs.Values as family
use Rattle.agg_terms.specs.Types.{state_args}
use Rattle.agg_terms.specs.Order.{compare, compare_rows}
use Rattle.agg_terms.specs.Trees.{by_time}
use Rattle.agg_terms.specs.Fitting.{are_apart, has_keyed, has_rows, has_slots, has_values, is_not_falling, is_rising, neighbours}
use Rattle.agg_terms.proofs.Lists.{keyed_back, table_back, trees_back, values_back}
use Rattle.value_types.specs.declared.chain.Chain.{Chain}
use Rattle.value_types.specs.declared.ty.Ty.{Ty}
use Rattle.value_types.specs.declared.ty.Ty.TheVariants as ty
use Rattle.value_types.specs.declared.value.Event.{Event}
use Rattle.value_types.specs.declared.value.Value.{Value}
use Rattle.value_types.specs.declared.value.Tree.{Tree}
use Rattle.value_types.specs.declared.value.Tree.TheVariants as tree
use Rattle.value_types.specs.declared.value.KeyedTree.{KeyedTree}
use Rattle.value_types.specs.Folds.{entry_of, event_of, tree_of, ty_of, value_of}
use Rattle.value_types.proofs.FoldLaws.{tree_of-Keyed, tree_of-Rows, tree_of-Slots, tree_of-Values, ty_of-State}
use Rattle.agg_values.proofs.Neighbours.{neighbours-map}

apart-map : {X Y : Type 0} (cmp : Y → Y → Ordering) (f : X → Y) (xs : List X) → are_apart cmp (map f xs) ≡ are_apart (λ x y. cmp (f x) (f y)) xs
apart-map cmp f [] = refl
apart-map cmp f (x ∷ xs) = ap₂ ◌&&◌ (list_all-map (λ y. not (is_eq (cmp (f x) y))) f xs) (apart-map cmp f xs)

pub values_in_order : (xs : List Value) → is_not_falling compare (map value_of xs) ≡ neighbours (λ x y. is_le (compare (value_of x) (value_of y))) xs
values_in_order xs = neighbours-map (λ x y. is_le (compare x y)) value_of xs

pub rows_in_order : (xs : List (List Value)) → is_rising compare_rows (map (map value_of) xs) ≡ neighbours (λ x y. is_lt (compare_rows (map value_of x) (map value_of y))) xs
rows_in_order xs = neighbours-map (λ x y. is_lt (compare_rows x y)) (map value_of) xs

pub rows_apart : (xs : List (List Value)) → are_apart compare_rows (map (map value_of) xs) ≡ are_apart (λ x y. compare_rows (map value_of x) (map value_of y)) xs
rows_apart xs = apart-map compare_rows (map value_of) xs

pub events_in_order : (xs : List Event) → is_not_falling by_time (map event_of xs) ≡ neighbours (λ x y. is_le (by_time (event_of x) (event_of y))) xs
events_in_order xs = neighbours-map (λ x y. is_le (by_time x y)) event_of xs

map_after : {X Y Z : Type 0} (g : Y → Z) (f : X → Y) (xs : List X) → map g (map f xs) ≡ map (λ x. g (f x)) xs
map_after g f [] = refl
map_after g f (x ∷ xs) = ap (λ ys. g (f x) ∷ ys) (map_after g f xs)

pub keys_in_order : (xs : List KeyedTree) → is_rising compare (map (λ e. e.0) (map entry_of xs)) ≡ neighbours (λ x y. is_lt (compare (entry_of x).0 (entry_of y).0)) xs
keys_in_order xs = ap (is_rising compare) (map_after (λ e. e.0) entry_of xs) ∙ neighbours-map (λ x y. is_lt (compare x y)) (λ x. (entry_of x).0) xs

pub ruleset image_laws = (list_all-map, length-map, values_in_order, rows_in_order, rows_apart, events_in_order, keys_in_order)

-- trees by their kind
pub values_at : (test : List family.Value → Bool) (t : Tree) (xs : List Value) → t ≡ tree.Values xs → has_values test (tree_of t) ≡ test (map value_of xs)
values_at test t xs e = ap (has_values test) (ap tree_of e ∙ tree_of-Values xs) ∙ ap test (values_back (map value_of xs))

pub rows_at : (test : List (List family.Value) → Bool) (t : Tree) (xs : List (List Value)) → t ≡ tree.Rows xs → has_rows test (tree_of t) ≡ test (map (map value_of) xs)
rows_at test t xs e = ap (has_rows test) (ap tree_of e ∙ tree_of-Rows xs) ∙ ap test (table_back (map (map value_of) xs))

pub slots_at : (test : List family.Tree → Bool) (t : Tree) (xs : List Tree) → t ≡ tree.Slots xs → has_slots test (tree_of t) ≡ test (map tree_of xs)
slots_at test t xs e = ap (has_slots test) (ap tree_of e ∙ tree_of-Slots xs) ∙ ap test (trees_back (map tree_of xs))

pub keyed_at : (test : List (family.Value × family.Tree) → Bool) (t : Tree) (xs : List KeyedTree) → t ≡ tree.Keyed xs → has_keyed test (tree_of t) ≡ test (map entry_of xs)
keyed_at test t xs e = ap (has_keyed test) (ap tree_of e ∙ tree_of-Keyed xs) ∙ ap test (keyed_back (map entry_of xs))

-- the types that a state was made over
pub tys_back : (ts : List terms.Ty) → terms.tys_list (terms.tys ts) ≡ ts
tys_back [] = refl
tys_back (t ∷ ts) = ap (◌∷◌ t) (tys_back ts)

pub state_args_at : (t : Ty) (c : Chain) (ts : List Ty) → t ≡ ty.State c ts → state_args (ty_of t) ≡ map ty_of ts
state_args_at t c ts e = ap state_args (ap ty_of e ∙ ty_of-State c ts) ∙ tys_back (map ty_of ts)
