-- What a state of groupArray stands for: after a row, after a merge, and what it means.
use Rattle.std.proofs.Common.{◌≡◌, ℕ, zero, suc, ◌+◌, ◌-◌, ◌≤◌, min, Bool, true, false, not, List, [], ◌∷◌, ◌++◌, map, length, take, Option, Some, None, refl, sym, ap, ap₂, ◌∙◌, subst, arith, nat_lt, take-take, true≢false}
use Rattle.std.specs.Prelude.{filter}
use Rattle.std.proofs.Math.Seq.{take-append-add, take-length}
use Rattle.std.proofs.lemmas.List.{append-nil, length-map, length-take, map-append, take-map}
use Rattle.std.proofs.lemmas.List.Elements.{filter-append}
use Rattle.agg_terms.specs.Chains.{GroupArray, Leaf, Of, Ty}
use Rattle.agg_terms.specs.Lists.{is_empty}
use Rattle.agg_terms.specs.Trees.{IsTree}
use Rattle.agg_terms.specs.Values.{Tree, Value, list_value, values_of, values_tree}
use Rattle.agg_terms.proofs.Lists.{values_back}
use Rattle.agg_terms.proofs.Sorting.{take_joins}
use Rattle.agg_meaning.specs.Feeds.{no_null}
use Rattle.agg_meaning.specs.Functions.{at_most, leaf_meaning, leaf_normal, the_arg}
use Rattle.agg_meaning.specs.Results.{default, leaf_result}
use Rattle.agg_meaning.specs.States.{Held, IsFedBy, Means, Stands, TakesRow, TakesState, made_for}
use Rattle.value_types.specs.Folds.{value_of}
use Rattle.value_types.specs.declared.value.Value as coded
use Rattle.list_leaves.specs.Limits.{is_full, limit_of, room_for}

abbrev held_with : Ty → Option ℕ → List Value → Held
held_with t b vs = record {
  made = record { leaf = GroupArray (limit_of b); result = t; arguments = 1 };
  tree = values_tree vs;
}

-- the values that a state keeps of rows
values_known : (t : Ty) (b : Option ℕ) (vs : List Value) (f : Leaf) (ts : List Ty) (L : List (List Value)) → Stands f ts L (held_with t b vs) → vs ≡ at_most (limit_of b) (map the_arg (filter no_null L))
values_known t b vs f ts L a =
    sym (values_back vs)
    ∙ ap values_of (a.1 ∙ ap (λ g. leaf_normal g ts (filter no_null L)) (sym (ap (λ m. m.leaf) a.0)))
    ∙ values_back (at_most (limit_of b) (map the_arg (filter no_null L)))

stands_for : (t : Ty) (b : Option ℕ) (vs : List Value) (f : Leaf) (ts : List Ty) (L : List (List Value)) → (held_with t b vs).made ≡ made_for f ts → vs ≡ at_most (limit_of b) (map the_arg (filter no_null L)) → Stands f ts L (held_with t b vs)
stands_for t b vs f ts L e h = (e, ap values_tree h ∙ ap (λ g. leaf_normal g ts (filter no_null L)) (ap (λ m. m.leaf) e))

-- two lists joined, of which as many are kept as there is room for
take_min : (n : ℕ) (ws : List Value) → take n ws ≡ take (min (length ws) n) ws
take_min zero ws = let e : min (length ws) 0 ≡ 0 = omega arith in ap (λ k. take k ws) (sym e)
take_min (suc n) [] = let e : min 0 (suc n) ≡ 0 = omega arith in ap (λ k. take k []) (sym e)
take_min (suc n) (w ∷ ws) =
    let e : min (length (w ∷ ws)) (suc n) ≡ suc (min (length ws) n) = omega arith in
    ap (◌∷◌ w) (take_min n ws) ∙ ap (λ k. take k (w ∷ ws)) (sym e)

taken : (n : ℕ) (vs ws : List Value) → length vs ≤ n → take n (vs ++ ws) ≡ vs ++ take (min (length ws) (n - length vs)) ws
taken n vs ws l =
    let e : n ≡ length vs + (n - length vs) = omega (arith, l) in
    ap (λ k. take k (vs ++ ws)) e ∙ take-append-add vs ws (n - length vs) ∙ ap (λ us. vs ++ us) (take_min (n - length vs) ws)

behind : (b : Option ℕ) (X Y vs ws : List Value) → vs ≡ at_most (limit_of b) X → ws ≡ at_most (limit_of b) Y → at_most (limit_of b) (X ++ Y) ≡ vs ++ take (room_for b (length vs) (length ws)) ws
behind None X Y vs ws e g = ap₂ ◌++◌ (sym e) (sym g ∙ sym (take-length ws))
behind (Some k) X Y vs ws e g =
    take_joins (k + 1) X vs Y ws (again X vs e) (again Y ws g)
    ∙ taken (k + 1) vs ws (let h : length vs ≡ min (k + 1) (length X) = ap length e ∙ length-take (k + 1) X in omega (arith, h))
  where
    again : (X vs : List Value) → vs ≡ take (k + 1) X → take (k + 1) X ≡ take (k + 1) vs
    again X vs e = sym (take-take (k + 1) (k + 1) X (omega arith)) ∙ ap (take (k + 1)) (sym e)

no_more : (k : ℕ) → take k (let none : List Value = [] in none) ≡ []
no_more zero = refl
no_more (suc k) = refl

one_kept : (b : Option ℕ) (v : Value) → v ∷ [] ≡ at_most (limit_of b) (v ∷ [])
one_kept None v = refl
one_kept (Some k) v =
    let e : k + 1 ≡ suc k = omega arith in
    ap (◌∷◌ v) (sym (no_more k)) ∙ ap (λ n. take n (v ∷ [])) (sym e)

room_left : (b : Option ℕ) (n : ℕ) → is_full b n ≡ false → room_for b n 1 ≡ 1
room_left None n h = refl
room_left (Some k) n h = grind (arith, h)

no_room : (b : Option ℕ) (n : ℕ) → is_full b n ≡ true → room_for b n 1 ≡ 0
no_room None n h = absurd (true≢false (sym h))
no_room (Some k) n h = grind (arith, h)

-- a limit is known by the function
abbrev most_of : Leaf → Option ℕ
most_of (GroupArray most) = most
most_of _ = None

same_limit : (t : Ty) (b c : Option ℕ) (vs ws : List Value) (f : Leaf) (ts : List Ty) → (held_with t b vs).made ≡ made_for f ts → (held_with t c ws).made ≡ made_for f ts → limit_of c ≡ limit_of b
same_limit t b c vs ws f ts e g = ap (λ m. most_of m.leaf) (g ∙ sym e)

joined_stands : (t : Ty) (b c : Option ℕ) (vs ws : List Value) → TakesState (held_with t b vs) (held_with t c ws) (held_with t b (vs ++ take (room_for b (length vs) (length ws)) ws))
joined_stands t b c vs ws f ts A B x y =
    stands_for t b (vs ++ take (room_for b (length vs) (length ws)) ws) f ts (A ++ B) x.0
    (sym (behind b (map the_arg (filter no_null A)) (map the_arg (filter no_null B)) vs ws (values_known t b vs f ts A x)
    (values_known t c ws f ts B y ∙ ap (λ m. at_most m (map the_arg (filter no_null B))) (same_limit t b c vs ws f ts x.0 y.0)))
    ∙ ap (at_most (limit_of b)) (sym (map-append the_arg (filter no_null A) (filter no_null B)) ∙ ap (map the_arg) (sym (filter-append no_null A B))))

row_stands : (t : Ty) (b : Option ℕ) (vs : List Value) (r : List Value) → TakesRow (held_with t b vs) r (held_with t b (vs ++ take (room_for b (length vs) 1) (the_arg r ∷ [])))
row_stands t b vs r f ts L g k live x =
    stands_for t b (vs ++ take (room_for b (length vs) 1) (the_arg r ∷ [])) f ts (L ++ r ∷ []) x.0
    (sym (behind b (map the_arg (filter no_null L)) (the_arg r ∷ []) vs (the_arg r ∷ []) (values_known t b vs f ts L x) (one_kept b (the_arg r)))
    ∙ ap (at_most (limit_of b)) (sym (map-append the_arg (filter no_null L) (r ∷ [])) ∙ ap (map the_arg) (ap (λ R. filter no_null L ++ R) (sym alive) ∙ sym (filter-append no_null L (r ∷ [])))))
  where
    alive : filter no_null (r ∷ []) ≡ r ∷ []
    alive = rw live

-- as the code has it: over the values that are kept
module _ (t : Ty) (b : Option ℕ) (vs : List coded.Value) where
  abbrev with_values : List coded.Value → Held
  with_values ws = held_with t b (map value_of ws)

  counted : length (map value_of vs) ≡ length vs
  counted = length-map vs value_of

  pub row_left : (r : List Value) → is_full b (length vs) ≡ true → TakesRow (with_values vs) r (with_values vs)
  row_left r h =
      subst (λ ws. TakesRow (with_values vs) r (held_with t b ws))
      (ap (λ k. map value_of vs ++ take k (the_arg r ∷ [])) (no_room b (length (map value_of vs)) (ap (is_full b) counted ∙ h)) ∙ append-nil (map value_of vs))
      (row_stands t b (map value_of vs) r)

  row_added : (ws : List coded.Value) (r : List Value) (i : coded.Value) → is_full b (length vs) ≡ false → ws ≡ vs ++ i ∷ [] → value_of i ≡ the_arg r → TakesRow (with_values vs) r (with_values ws)
  row_added ws r i h e g =
      subst (λ us. TakesRow (with_values vs) r (held_with t b us))
      (ap (λ k. map value_of vs ++ take k (the_arg r ∷ [])) (room_left b (length (map value_of vs)) (ap (is_full b) counted ∙ h))
      ∙ ap (λ v. map value_of vs ++ v ∷ []) (sym g) ∙ sym (map-append value_of vs (i ∷ [])) ∙ ap (map value_of) (sym e))
      (row_stands t b (map value_of vs) r)

  rows_joined : (c : Option ℕ) (us ws : List coded.Value) (n : ℕ) → n ≡ room_for b (length vs) (length us) → ws ≡ vs ++ take n us → TakesState (with_values vs) (held_with t c (map value_of us)) (with_values ws)
  rows_joined c us ws n h e =
      subst (λ z. TakesState (with_values vs) (held_with t c (map value_of us)) (held_with t b z))
      (ap₂ (λ k l. map value_of vs ++ take (room_for b k l) (map value_of us)) counted (length-map us value_of)
      ∙ ap (λ k. map value_of vs ++ take k (map value_of us)) (sym h)
      ∙ ap (λ z. map value_of vs ++ z) (take-map value_of n us)
      ∙ sym (map-append value_of vs (take n us)) ∙ ap (map value_of) (sym e))
      (joined_stands t b c (map value_of vs) (map value_of us))

  -- the array
  pub values_mean : (v : Value) → v ≡ list_value (map value_of vs) → Means (with_values vs) v
  values_mean v e f ts L g a =
      e ∙ ap list_value (values_known t b (map value_of vs) f ts L a)
      ∙ ap (λ m. leaf_meaning m.leaf ts (default m.result) (filter no_null L)) a.0

  -- whether there was a row
  no_values : (b : Option ℕ) → at_most b (let none : List Value = [] in none) ≡ []
  no_values None = refl
  no_values (Some k) = no_more k

  some_values : (b : Option ℕ) (v : Value) (ws : List Value) → length (at_most (limit_of b) (v ∷ ws)) ≡ 0 → ⊥
  some_values None v ws h = absurd (omega (arith, h))
  some_values (Some k) v ws h =
      let e : k + 1 ≡ suc k = omega arith in
      let g : length (take (suc k) (v ∷ ws)) ≡ 0 = ap (λ n. length (take n (v ∷ ws))) (sym e) ∙ h in
      absurd (omega (arith, g))

  none_fed : length vs ≡ 0 → IsFedBy (with_values vs) false
  none_fed h f ts L a = go (filter no_null L) (ap length (sym (values_known t b (map value_of vs) f ts L a)) ∙ counted ∙ h)
    where
      go : (R : List (List Value)) → length (at_most (limit_of b) (map the_arg R)) ≡ 0 → false ≡ not (is_empty R)
      go [] k = refl
      go (r ∷ R) k = absurd (some_values b (the_arg r) (map the_arg R) k)

  some_fed : (length vs ≡ 0 → ⊥) → IsFedBy (with_values vs) true
  some_fed h f ts L a = go (filter no_null L) (λ k. h (sym counted ∙ ap length (values_known t b (map value_of vs) f ts L a) ∙ k))
    where
      go : (R : List (List Value)) → (length (at_most (limit_of b) (map the_arg R)) ≡ 0 → ⊥) → true ≡ not (is_empty R)
      go [] k = absurd (k (ap length (no_values (limit_of b))))
      go (r ∷ R) k = refl

  pub fed_when : (n : ℕ) → n ≡ length vs → IsFedBy (with_values vs) (nat_lt 0 n)
  fed_when n e = go (nat_lt 0 n) refl
    where
      go : (c : Bool) → nat_lt 0 n ≡ c → IsFedBy (with_values vs) c
      go true h = some_fed (λ k. grind (arith, h, e, k))
      go false h = none_fed (let z : n ≡ 0 = grind (arith, h) in sym e ∙ z)

-- the same at each type of a result
pub any_row_added : (b : Option ℕ) (vs ws : List coded.Value) (r : List Value) (i : coded.Value) → is_full b (length vs) ≡ false → value_of i ≡ the_arg r → ws ≡ vs ++ i ∷ [] →
    (t : Ty) → TakesRow (held_with t b (map value_of vs)) r (held_with t b (map value_of ws))
any_row_added b vs ws r i h g e t = row_added t b vs ws r i h e g

pub any_rows_joined : (b c : Option ℕ) (vs us ws : List coded.Value) (n : ℕ) → n ≡ room_for b (length vs) (length us) → ws ≡ vs ++ take n us →
    (t : Ty) → TakesState (held_with t b (map value_of vs)) (held_with t c (map value_of us)) (held_with t b (map value_of ws))
any_rows_joined b c vs us ws n h e t = rows_joined t b vs c us ws n h e

-- what it was made for
pub made_is : (b : Option ℕ) (vs : List coded.Value) (f : Leaf) (ts : List Ty) → GroupArray (limit_of b) ≡ f → 1 ≡ length ts → (held_with (leaf_result f ts) b (map value_of vs)).made ≡ made_for f ts
made_is b vs f ts e l = ap₂ (λ g n. record { leaf = g; result = leaf_result f ts; arguments = n }) e l

-- a state of no rows, and the state with a tree
pub fresh_stands : (b : Option ℕ) (vs : List coded.Value) (f : Leaf) (ts : List Ty) → GroupArray (limit_of b) ≡ f → 1 ≡ length ts → vs ≡ [] → Stands f ts [] (held_with (leaf_result f ts) b (map value_of vs))
fresh_stands b vs f ts e l h =
    stands_for (leaf_result f ts) b (map value_of vs) f ts [] (made_is b vs f ts e l) (ap (map value_of) h ∙ sym (none (limit_of b)))
  where
    none : (m : Option ℕ) → at_most m (let n : List Value = [] in n) ≡ []
    none None = refl
    none (Some k) = no_more k

pub tree_is : (m : Option ℕ) (f : Leaf) (ts : List Ty) (t : Tree) (vs : List coded.Value) → GroupArray m ≡ f → map value_of vs ≡ values_of t → IsTree (Of f) ts t → values_tree (map value_of vs) ≡ t
tree_is m f ts t vs e h k =
    ap values_tree h ∙ go (subst (λ g. IsTree (Of g) ts t) (sym e) k)
  where
    go : IsTree (Of (GroupArray m)) ts t → values_tree (values_of t) ≡ t
    go k = ap (λ u. values_tree (values_of u)) k.1 ∙ ap values_tree (values_back k.0) ∙ sym k.1
