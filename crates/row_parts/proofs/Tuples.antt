-- Rows of elements at equal places of arrays.
use Rattle.std.proofs.Common.{◌≡◌, ℕ, ℤ, zero, suc, ◌-◌, ◌<◌, ◌≤◌, min, List, [], ◌∷◌, map, take, drop, length, get_or, refl, sym, ap, ap₂, ◌∙◌, subst, arith, Option, Some, None}
use Rattle.std.specs.List.{slice_get}
use Rattle.std.specs.Prelude.{IfSome}
use Rattle.std.proofs.lemmas.List.{length-map, take-map}
use Rattle.agg_terms.specs.Values.{Nil, Value}
use Rattle.agg_terms.specs.Lists.{front}
use Rattle.agg_terms.proofs.Lists.{entries_back, values_back}
use Rattle.agg_meaning.specs.Feeds.{entries_of, items_of, last, tuples, zip_with}
use Rattle.int_leaves.specs.Rows.{argument}
use Rattle.typed_columns.specs.Items.{item_value, pair_span_values, span_values}
use Rattle.typed_columns.specs.declared.item.Item.{Item}
use Rattle.typed_columns.specs.declared.item.Item.TheVariants as item
use Rattle.typed_columns.specs.declared.item.PairSpan.{PairSpan}
use Rattle.typed_columns.specs.declared.item.Span.{Span}
use Rattle.value_types.specs.Folds.{value_of}
use Rattle.value_types.specs.declared.value.Value.{Value as Valued}
use Rattle.value_types.proofs.FoldLaws.{value_of-Bytes, value_of-Cell, value_of-List, value_of-Nil, value_of-Num, value_of-Pairs}
use Rattle.row_parts.specs.Rows.{arguments, element_rows, pair_value}

pub map_twice : {X Y Z : Type 0} (f : Y → Z) (g : X → Y) (xs : List X) → map f (map g xs) ≡ map (λ x. f (g x)) xs
map_twice f g [] = refl
map_twice f g (x ∷ xs) = ap (◌∷◌ (f (g x))) (map_twice f g xs)

-- the elements of an item
pub items_listed : (x : Item) (span : Span) → x ≡ item.List span → items_of (argument x) ≡ map value_of (span_values span)
items_listed x span e = ap (λ y. items_of (argument y)) e ∙ ap items_of (value_of-List (span_values span)) ∙ values_back (map value_of (span_values span))

pub items_num : (x : Item) (n : ℤ) → x ≡ item.Num n → items_of (argument x) ≡ []
items_num x n e = ap (λ y. items_of (argument y)) e ∙ ap items_of (value_of-Num n)

pub items_bytes : (x : Item) (b : _) → x ≡ item.Bytes b → items_of (argument x) ≡ []
items_bytes x b e = ap (λ y. items_of (argument y)) e ∙ ap items_of (value_of-Bytes _)

pub items_nil : (x : Item) → x ≡ item.Nil → items_of (argument x) ≡ []
items_nil x e = ap (λ y. items_of (argument y)) e ∙ ap items_of value_of-Nil

pub items_pairs : (x : Item) (p : _) → x ≡ item.Pairs p → items_of (argument x) ≡ []
items_pairs x p e = ap (λ y. items_of (argument y)) e ∙ ap items_of (value_of-Pairs _)

pub items_cell : (x : Item) (t : _) → x ≡ item.Cell t → items_of (argument x) ≡ []
items_cell x t e = ap (λ y. items_of (argument y)) e ∙ ap items_of (value_of-Cell _)

pub ruleset element_laws = (items_listed, items_num, items_bytes, items_nil, items_pairs, items_cell, length-map)

-- one element by its place
pub map_at : {X Y : Type 0} (f : X → Y) (b : Y) (xs : List X) (i : ℕ) (x : X) → slice_get xs i ≡ Some x → get_or (map f xs) i b ≡ f x
map_at f b [] i x h = cc
map_at f b (y ∷ xs) zero x h = cc
map_at f b (y ∷ xs) (suc i) x h = map_at f b xs i x h

map_get : {X Y : Type 0} (f : X → Y) (b : Y) (d : X) (xs : List X) (i : ℕ) → i < length xs → get_or (map f xs) i b ≡ f (get_or xs i d)
map_get f b d [] i l = absurd (omega arith)
map_get f b d (y ∷ xs) zero l = refl
map_get f b d (y ∷ xs) (suc i) l = map_get f b d xs i (omega arith)

length-zip : {X Y Z : Type 0} (f : X → Y → Z) (xs : List X) (ys : List Y) → length (zip_with f xs ys) ≡ min (length xs) (length ys)
length-zip f [] ys = omega arith
length-zip f (x ∷ xs) [] = omega arith
length-zip f (x ∷ xs) (y ∷ ys) = omega (arith, length-zip f xs ys)

zip_at : {X Y Z : Type 0} (f : X → Y → Z) (a : X) (b : Y) (d : Z) (xs : List X) (ys : List Y) (i : ℕ) → i < length xs → i < length ys → get_or (zip_with f xs ys) i d ≡ f (get_or xs i a) (get_or ys i b)
zip_at f a b d [] ys i l k = absurd (omega arith)
zip_at f a b d (x ∷ xs) [] i l k = absurd (omega arith)
zip_at f a b d (x ∷ xs) (y ∷ ys) zero l k = refl
zip_at f a b d (x ∷ xs) (y ∷ ys) (suc i) l k = zip_at f a b d xs ys i (omega arith) (omega arith)

-- how many rows there are
pub count_one : (v : Value) → length (tuples (v ∷ [])) ≡ length (items_of v)
count_one v = length-map (items_of v) (λ x. x ∷ [])

pub count_more : (v : Value) (ws : List Value) → 1 ≤ length ws → length (tuples (v ∷ ws)) ≡ min (length (items_of v)) (length (tuples ws))
count_more v [] l = absurd (omega arith)
count_more v (w ∷ ws) l = length-zip (λ x r. x ∷ r) (items_of v) (tuples (w ∷ ws))

pub counted : (row rest : List Item) (x : Item) (a b : ℕ) → 1 ≤ length row → rest ≡ drop 1 row → x ≡ get_or row 0 x → 1 ≤ length rest → a ≡ length (items_of (argument x)) → b ≡ length (tuples (arguments rest)) → min a b ≡ length (tuples (arguments row))
counted [] rest x a b l e g n h k = absurd (omega arith)
counted (y ∷ ys) rest x a b l e g n h k =
    ap₂ min (h ∙ ap (λ z. length (items_of (argument z))) g) (k ∙ ap (λ z. length (tuples (arguments z))) e)
    ∙ sym (count_more (argument y) (arguments ys) (omega (arith, length-map ys argument, n, ap length e)))

abbrev pub at_place : ℕ → Value → Value
at_place i v = get_or (items_of v) i Nil

-- each array reaches as far,
pub reaches : (r : List Value) (i : ℕ) → i < length (tuples r) → (j : ℕ) (v : Value) → j < length r → v ≡ get_or r j v → i < length (items_of v)
reaches [] i l j v k e = absurd (omega arith)
reaches (x ∷ []) i l zero v k e = subst (λ y. i < length (items_of y)) (sym e) (omega (arith, l, count_one x))
reaches (x ∷ []) i l (suc j) v k e = absurd (omega arith)
reaches (x ∷ w ∷ ws) i l zero v k e = subst (λ y. i < length (items_of y)) (sym e) (omega (arith, l, count_more x (w ∷ ws) (omega arith)))
reaches (x ∷ w ∷ ws) i l (suc j) v k e = reaches (w ∷ ws) i (omega (arith, l, count_more x (w ∷ ws) (omega arith))) j v (omega arith) e

pub item_reaches : (row : List Item) (i : ℕ) → i < length (tuples (arguments row)) → (j : ℕ) (x : Item) → j < length row → x ≡ get_or row j x → i < length (items_of (argument x))
item_reaches row i l j x k e = reaches (arguments row) i l j (argument x) (omega (arith, k, length-map row argument)) (get row j k e)
  where
    get : (qs : List Item) (j : ℕ) → j < length qs → x ≡ get_or qs j x → argument x ≡ get_or (arguments qs) j (argument x)
    get [] j l e = absurd (omega arith)
    get (q ∷ qs) zero l e = ap argument e
    get (q ∷ qs) (suc j) l e = get qs j (omega arith) e

-- and the row at a place has the elements there
pub tuple_at : (r : List Value) (i : ℕ) → i < length (tuples r) → get_or (tuples r) i [] ≡ map (at_place i) r
tuple_at [] i l = absurd (omega arith)
tuple_at (v ∷ []) i l = map_get (λ x. x ∷ []) [] Nil (items_of v) i (omega (arith, l, count_one v))
tuple_at (v ∷ w ∷ ws) i l =
    let m = count_more v (w ∷ ws) (omega arith) in
    zip_at (λ x r. x ∷ r) Nil [] [] (items_of v) (tuples (w ∷ ws)) i (omega (arith, l, m)) (omega (arith, l, m))
    ∙ ap (◌∷◌ (at_place i v)) (tuple_at (w ∷ ws) i (omega (arith, l, m)))

pub ruleset tuple_laws = (count_one, count_more)

-- the rows of one array
pub lone_rows : (row : List Item) (x : Item) (vs : List Valued) → 1 ≤ length row → length row < 2 → x ≡ get_or row 0 x → items_of (argument x) ≡ map value_of vs → tuples (arguments row) ≡ element_rows vs
lone_rows [] x vs k l e g = absurd (omega arith)
lone_rows (y ∷ []) x vs k l e g = ap (map (λ v. v ∷ [])) (ap (λ z. items_of (argument z)) (sym e) ∙ g) ∙ map_twice (λ v. v ∷ []) value_of vs
lone_rows (y ∷ z ∷ zs) x vs k l e g = absurd (omega arith)

pub some_rows : (row : List Item) (x : Item) (o : Option Span) → 1 ≤ length row → length row < 2 → x ≡ get_or row 0 x → IfSome o (λ s. items_of (argument x) ≡ map value_of (span_values s)) → IfSome o (λ s. tuples (arguments row) ≡ element_rows (span_values s))
some_rows row x None k l e h = h
some_rows row x (Some s) k l e h = lone_rows row x (span_values s) k l e h

pub one_row : (span : Span) (i : ℕ) (y : Item) → slice_get (span_values span) i ≡ Some (item_value y) → get_or (element_rows (span_values span)) i [] ≡ argument y ∷ []
one_row span i y e = map_at (λ v. value_of v ∷ []) [] (span_values span) i (item_value y) e

-- the entries of an item
pub pairs_listed : (x : Item) (p : PairSpan) → x ≡ item.Pairs p → entries_of (argument x) ≡ map pair_value (pair_span_values p)
pairs_listed x p e = ap (λ y. entries_of (argument y)) e ∙ ap entries_of (value_of-Pairs (pair_span_values p)) ∙ entries_back (map pair_value (pair_span_values p))

pub ruleset pair_laws = (pairs_listed)

-- all but the last argument, and the last one
front-take : {X : Type 0} (xs : List X) → front xs ≡ take (length xs - 1) xs
front-take [] = refl
front-take (x ∷ []) = refl
front-take (x ∷ y ∷ ys) = let e : suc (suc (length ys)) - 1 ≡ suc (length ys) = omega arith in let f : suc (length ys) - 1 ≡ length ys = omega arith in rw e (ap (◌∷◌ x) (front-take (y ∷ ys) ∙ ap (λ n. take n (y ∷ ys)) f))

pub front-map : (row : List Item) → arguments (take (length row - 1) row) ≡ front (arguments row)
front-map row = sym (front-take (arguments row) ∙ ap (λ n. take (n - 1) (arguments row)) (length-map row argument) ∙ take-map argument (length row - 1) row)

pub ruleset front_laws = (front-map)

pub last-get : (d : Value) (x : Item) (row : List Item) → 0 < length row → x ≡ get_or row (length row - 1) x → last d (arguments row) ≡ argument x
last-get d x [] l e = absurd (omega arith)
last-get d x (y ∷ []) l e = ap argument (sym e)
last-get d x (y ∷ z ∷ zs) l e =
    let f : suc (suc (length zs)) - 1 ≡ suc (length zs) = omega arith in
    let h : suc (length zs) - 1 ≡ length zs = omega arith in
    last-get (argument y) x (z ∷ zs) (omega arith) (e ∙ ap (λ n. get_or (y ∷ z ∷ zs) n x) f ∙ ap (λ n. get_or (z ∷ zs) n x) (sym h))
