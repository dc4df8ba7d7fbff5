-- The rows that are lent to the chain inside: an element, a tuple of elements, an entry of a map.
use Rattle.std.proofs.Common.{◌≡◌, ℕ, zero, suc, ◌<◌, ◌≤◌, List, [], ◌∷◌, map, length, get_or, Some, refl, sym, ap, ap₂, ◌∙◌, arith}
use Rattle.std.specs.List.{slice_get}
use Rattle.std.proofs.lemmas.List.{length-map}
use Rattle.agg_terms.specs.Values.{Value}
use Rattle.agg_meaning.specs.Feeds.{tuples}
use Rattle.int_leaves.specs.Rows.{argument}
use Rattle.typed_columns.specs.Items.{item_value}
use Rattle.typed_columns.specs.declared.item.Item.{Item}
use Rattle.value_types.specs.Folds.{value_of}
use Rattle.value_types.specs.declared.value.Value.{Value as Valued}
use Rattle.row_parts.specs.Rows.{arguments, element_rows, pair_value}
use Rattle.row_parts.proofs.Tuples.{at_place, map_at, map_twice, tuple_at}

-- a place among the elements is one among their rows
pub element_within : (vs : List Valued) (i n : ℕ) → i < n → n ≡ length vs → i < length (element_rows vs)
element_within vs i n l e = omega (arith, l, e, length-map {B = List Value} vs (λ v. value_of v ∷ []))

-- as many rows as elements
pub element_count : (vs : List Valued) → length (element_rows vs) ≡ length vs
element_count vs = length-map {B = List Value} vs (λ v. value_of v ∷ [])

pub tuple_within : (row : List Item) (i n : ℕ) → i < n → n ≡ length (tuples (arguments row)) → i < length (tuples (arguments row))
tuple_within row i n l e = omega (arith, l, e)

-- the items of a tuple that was lent are its row
pub lent_row : (out : List Item) (vs : List Valued) (r : List Value) → map item_value out ≡ vs → map value_of vs ≡ r → arguments out ≡ r
lent_row out vs r e g = sym (map_twice value_of item_value out) ∙ ap (map value_of) e ∙ g

-- and no more than the arrays
pub lent_few : (row out : List Item) (vs : List Valued) (i n : ℕ) → i < n → n ≡ length (tuples (arguments row)) → map item_value out ≡ vs → map value_of vs ≡ get_or (tuples (arguments row)) i [] → length row ≤ 64 → length out ≤ 64
lent_few row out vs i n l m e g few =
    let a = length-map out argument in
    let b = ap length (lent_row out vs (get_or (tuples (arguments row)) i []) e g ∙ tuple_at (arguments row) i (omega (arith, l, m))) in
    let k = long (arguments row) in
    let d = length-map row argument in
    omega (arith, a, b, k, d, few)
  where
    long : (r : List Value) → length (map (at_place i) r) ≡ length r
    long r = length-map r (at_place i)

-- the key and the value of an entry
pair_parts : (ps : List (Valued × Valued)) (i : ℕ) (d : Value × Value) → get_or (map pair_value ps) i d ≡ (get_or (map value_of (map (λ e. e.0) ps)) i d.0, get_or (map value_of (map (λ e. e.1) ps)) i d.1)
pair_parts [] i d = refl
pair_parts (p ∷ ps) zero d = refl
pair_parts (p ∷ ps) (suc i) d = pair_parts ps i d

pub pair_at : (ps : List (Valued × Valued)) (i : ℕ) (key value : Item) → slice_get (map (λ e. e.0) ps) i ≡ Some (item_value key) → slice_get (map (λ e. e.1) ps) i ≡ Some (item_value value) →
    (argument key, argument value) ≡ get_or (map pair_value ps) i (argument key, argument value)
pair_at ps i key value e g = sym (pair_parts ps i (argument key, argument value)
    ∙ ap₂ (λ a b. (a, b)) (map_at value_of (argument key) (map (λ e. e.0) ps) i (item_value key) e) (map_at value_of (argument value) (map (λ e. e.1) ps) i (item_value value) g))

pub pair_within : (ps : List (Valued × Valued)) (i n : ℕ) → i < n → n ≡ length ps → i < length (map pair_value ps)
pair_within ps i n l e = omega (arith, l, e, length-map {B = Value × Value} ps pair_value)
