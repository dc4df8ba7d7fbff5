-- What a state of quantileExact stands for: after a row, after a merge, and what it means.
use Rattle.std.proofs.Common.{◌≡◌, ℕ, zero, suc, ◌-◌, ◌*◌, ◌/◌, ◌^◌, ◌<◌, ◌≤◌, ℤ, pos, nat_eq, get_or, Bool, true, false, not, cond, List, [], ◌∷◌, ◌++◌, map, length, refl, sym, ap, ap₂, ◌∙◌, subst, arith, true≢false, Ordering, Less, Equal, Greater}
use Rattle.std.specs.Prelude.{filter}
use Rattle.std.specs.Ordering.{int_cmp}
use Rattle.std.proofs.lemmas.Cmp.{int_cmp_total}
use Rattle.std.proofs.lemmas.List.{length-map, map-append}
use Rattle.std.proofs.lemmas.List.Elements.{filter-append}
use Rattle.agg_terms.specs.Chains.{Arr, Leaf, MapTy, Nullable, Of, QuantileExact, Signed, StateOf, Str, Ty, Whole}
use Rattle.agg_terms.specs.Laws.{IsFullOrder}
use Rattle.agg_terms.specs.Lists.{Each, is_empty}
use Rattle.agg_terms.specs.Order.{ascending, compare, into_sorted, place_sorted}
use Rattle.agg_terms.specs.Trees.{IsPlain, IsStateless, IsTree}
use Rattle.agg_terms.specs.Types.{any_null, bare, first_type}
use Rattle.agg_terms.specs.Values.{Nil, Num, Tree, Value, values_of, values_tree}
use Rattle.agg_terms.proofs.Comparing.{compare_order, compare_total}
use Rattle.agg_terms.proofs.Lists.{values_back}
use Rattle.agg_terms.proofs.Sorting.{length-ascending, ranking, sorted_steady, steady_joins}
use Rattle.agg_meaning.specs.Feeds.{AreValues, IsLeafFeed, no_null}
use Rattle.agg_meaning.specs.Functions.{arg, leaf_meaning, leaf_normal, number, quantile_place, the_arg}
use Rattle.agg_meaning.specs.Lawful.{TakesTypes}
use Rattle.agg_meaning.specs.Results.{default, leaf_result, nullable_if}
use Rattle.agg_meaning.specs.States.{Held, IsFedBy, Means, Stands, TakesRow, TakesState, made_for}
use Rattle.agg_meaning.proofs.LeafFormed.{live_row}
use Rattle.value_types.specs.Folds.{tree_of, value_of}
use Rattle.value_types.specs.declared.value.Tree.TheVariants as tree
use Rattle.value_types.specs.declared.value.Value as coded
use Rattle.value_types.specs.declared.value.Value.TheVariants as value
use Rattle.value_types.proofs.FoldLaws.{tree_of-Values, value_of-Nil, value_of-Num}
use Rattle.column_parts.specs.declared.number_type.NumberType.{NumberType}
use Rattle.column_parts.specs.declared.number_type.NumberType.TheVariants as numbers
use Rattle.list_leaves.specs.Quantiles.{made_of, number_ty}
use Rattle.list_leaves.specs.Served.{IsNumberType, IsOne}
use Rattle.list_leaves.specs.declared.made.Made.{Made}
use Rattle.list_leaves.proofs.InOrder.{ordered_is}
use Rattle.list_leaves.proofs.Serving.{one_length}

-- the place
pub place_is : (level n : ℕ) → quantile_place level n ≡ cond (nat_eq level (10 ^ 9)) (n - 1) ((level * n) / 10 ^ 9)
place_is level zero = refl
place_is level (suc n) = ap (λ k. cond (nat_eq level (10 ^ 9)) k ((level * suc n) / 10 ^ 9)) (let e : n ≡ suc n - 1 = omega arith in e)

-- the order of numbers
pub int_order : IsFullOrder int_cmp
unfolding compare
int_order = (int_cmp_total, λ x y e. ap number (compare_order.same (Num x) (Num y) e))

pub value_order : IsFullOrder compare
value_order = (compare_total, compare_order.same)

into_numbers : (n : ℤ) (ns : List ℤ) → into_sorted compare (Num n) (map Num ns) ≡ map Num (into_sorted int_cmp n ns)
unfolding compare
into_numbers n [] = refl
into_numbers n (m ∷ ns) = go (int_cmp n m) (into_numbers n ns)
  where
    go : (o : Ordering) → into_sorted compare (Num n) (map Num ns) ≡ map Num (into_sorted int_cmp n ns) →
        place_sorted o (Num n) (Num m) (map Num ns) (into_sorted compare (Num n) (map Num ns)) ≡ map Num (place_sorted o n m ns (into_sorted int_cmp n ns))
    go Less h = refl
    go Equal h = refl
    go Greater h = ap (◌∷◌ (Num m)) h

pub ascending_numbers : (ns : List ℤ) → ascending compare (map Num ns) ≡ map Num (ascending int_cmp ns)
ascending_numbers [] = refl
ascending_numbers (n ∷ ns) = ap (into_sorted compare (Num n)) (ascending_numbers ns) ∙ into_numbers n (ascending int_cmp ns)

-- numbers that are those of rows, in some order
abbrev AreNumbersOf : List (List Value) → List ℤ → Type 0
AreNumbersOf L ns = ascending compare (map Num ns) ≡ ascending compare (map the_arg L)

numbers_joined : (A B : List (List Value)) (ns ms : List ℤ) → AreNumbersOf A ns → AreNumbersOf B ms → AreNumbersOf (A ++ B) (ns ++ ms)
numbers_joined A B ns ms a b =
    ap (ascending compare) (map-append Num ns ms)
    ∙ steady_joins (into_sorted compare) (sorted_steady compare (ranking compare compare_order)) (map Num ns) (map the_arg A) (map Num ms) (map the_arg B) a b
    ∙ ap (ascending compare) (sym (map-append the_arg A B))

numbers_counted : (L : List (List Value)) (ns : List ℤ) → AreNumbersOf L ns → length ns ≡ length L
numbers_counted L ns a =
    sym (length-map ns Num)
    ∙ sym (length-ascending compare (map Num ns)) ∙ ap length a ∙ length-ascending compare (map the_arg L)
    ∙ length-map L the_arg

abbrev held_with : Made → List ℤ → Held
held_with m ns = record { made = made_of m; tree = values_tree (ascending compare (map Num ns)) }

numbers_known : (m : Made) (ns : List ℤ) (f : Leaf) (ts : List Ty) (L : List (List Value)) → Stands f ts L (held_with m ns) → AreNumbersOf (filter no_null L) ns
numbers_known m ns f ts L a =
    sym (values_back (ascending compare (map Num ns)))
    ∙ ap values_of (a.1 ∙ ap (λ g. leaf_normal g ts (filter no_null L)) (sym (ap (λ k. k.leaf) a.0)))
    ∙ values_back (ascending compare (map the_arg (filter no_null L)))

stands_for : (m : Made) (ns : List ℤ) (f : Leaf) (ts : List Ty) (L : List (List Value)) → made_of m ≡ made_for f ts → AreNumbersOf (filter no_null L) ns → Stands f ts L (held_with m ns)
stands_for m ns f ts L e h = (e, ap values_tree h ∙ ap (λ g. leaf_normal g ts (filter no_null L)) (ap (λ k. k.leaf) e))

-- a live row has a number
bare_nullable : (b : Bool) (t : Ty) → bare (nullable_if b t) ≡ bare t
bare_nullable true t = refl
bare_nullable false t = refl

bare_bare : (t : Ty) → bare (bare t) ≡ bare t
bare_bare (Whole n) = refl
bare_bare (Signed w) = refl
bare_bare Str = refl
bare_bare (Arr t) = refl
bare_bare (MapTy k t) = refl
bare_bare (Nullable t) = bare_bare t
bare_bare (StateOf c ts) = refl

number_bare : (k : NumberType) → IsNumberType (bare (number_ty k))
number_bare numbers.U8 = tt
number_bare numbers.U16 = tt
number_bare numbers.U32 = tt
number_bare numbers.U64 = tt
number_bare numbers.I8 = tt
number_bare numbers.I16 = tt
number_bare numbers.I32 = tt
number_bare numbers.I64 = tt

plain_number : (t : Ty) → IsNumberType t → (v : Value) → IsPlain t v → v ≡ Num (number v)
plain_number (Whole n) s v k = k.1 ∙ ap (λ w. Num (number w)) (sym k.1)
plain_number (Signed w) s v k = k.1 ∙ ap (λ w. Num (number w)) (sym k.1)
plain_number Str s v k = absurd s
plain_number (Arr t) s v k = absurd s
plain_number (MapTy i t) s v k = absurd s
plain_number (Nullable t) s v k = absurd s
plain_number (StateOf c ts) s v k = absurd s

made_number : (m : Made) (ts : List Ty) → made_of m ≡ made_for (QuantileExact m.level) ts → IsNumberType (bare (first_type ts))
made_number m ts e =
    subst IsNumberType
    (sym (bare_nullable m.nullable (number_ty m.number)) ∙ ap (λ k. bare k.result) e ∙ bare_nullable (any_null ts) (bare (first_type ts)) ∙ bare_bare (first_type ts))
    (number_bare m.number)

row_number : (ts : List Ty) (r : List Value) → IsNumberType (bare (first_type ts)) → (t : Ty) × (ts ≡ t ∷ []) × IsStateless t → AreValues ts r → no_null r ≡ true → the_arg r ≡ Num (number (the_arg r))
row_number ts r s k v n = go r (subst (λ us. AreValues us r) k.1 v) n
  where
    s' : IsNumberType (bare k.0)
    s' = subst (λ us. IsNumberType (bare (first_type us))) k.1 s

    go : (r : List Value) → AreValues (k.0 ∷ []) r → no_null r ≡ true → the_arg r ≡ Num (number (the_arg r))
    go [] v n = absurd v
    go (w ∷ []) v n = plain_number (bare k.0) s' w (live_row (k.0 ∷ []) (k.2, tt) (w ∷ []) v n).0
    go (w ∷ x ∷ ws) v n = absurd v.1

fed_number : (m : Made) (f : Leaf) (ts : List Ty) (r : List Value) → made_of m ≡ made_for f ts → TakesTypes f ts → IsLeafFeed f ts r → no_null r ≡ true → the_arg r ≡ Num (number (the_arg r))
fed_number m f ts r e g v n =
    let same : f ≡ QuantileExact m.level = sym (ap (λ k. k.leaf) e) in
    row_number ts r (made_number m ts (e ∙ ap (λ h. made_for h ts) same)) (subst (λ h. TakesTypes h ts) same g) (subst (λ h. IsLeafFeed h ts r) same v) n

pub joined_stands : (m n : Made) (ns ms : List ℤ) → TakesState (held_with m ns) (held_with n ms) (held_with m (ns ++ ms))
joined_stands m n ns ms f ts A B a b =
    stands_for m (ns ++ ms) f ts (A ++ B) a.0
    (subst (λ L. AreNumbersOf L (ns ++ ms)) (sym (filter-append no_null A B))
    (numbers_joined (filter no_null A) (filter no_null B) ns ms (numbers_known m ns f ts A a) (numbers_known n ms f ts B b)))

row_stands : (m : Made) (ns : List ℤ) (r : List Value) → TakesRow (held_with m ns) r (held_with m (ns ++ number (the_arg r) ∷ []))
row_stands m ns r f ts L g v live a =
    stands_for m (ns ++ number (the_arg r) ∷ []) f ts (L ++ r ∷ []) a.0
    (subst (λ R. AreNumbersOf R (ns ++ number (the_arg r) ∷ [])) (sym (filter-append no_null L (r ∷ []) ∙ ap (λ R. filter no_null L ++ R) alive))
    (numbers_joined (filter no_null L) (r ∷ []) ns (number (the_arg r) ∷ []) (numbers_known m ns f ts L a)
    (ap (λ w. w ∷ []) (sym (fed_number m f ts r a.0 g v live)))))
  where
    alive : filter no_null (r ∷ []) ≡ r ∷ []
    alive = rw live

-- as the code has it
pub row_taken : (m : Made) (ns ms : List ℤ) (r : List Value) (z : ℤ) → z ≡ number (the_arg r) → ms ≡ ns ++ z ∷ [] → TakesRow (held_with m ns) r (held_with m ms)
row_taken m ns ms r z e h = subst (λ l. TakesRow (held_with m ns) r (held_with m l)) (ap (λ w. ns ++ w ∷ []) (sym e) ∙ sym h) (row_stands m ns r)

pub rows_taken : (m n : Made) (ns ms us : List ℤ) → us ≡ ns ++ ms → TakesState (held_with m ns) (held_with n ms) (held_with m us)
rows_taken m n ns ms us e = subst (λ l. TakesState (held_with m ns) (held_with n ms) (held_with m l)) (sym e) (joined_stands m n ns ms)

-- what it was made for, and a state of no rows
result_is : (k : NumberType) (ts : List Ty) → number_ty k ≡ bare (first_type ts) → nullable_if (any_null ts) (number_ty k) ≡ leaf_result (QuantileExact 0) ts
result_is k ts e = ap (nullable_if (any_null ts)) e

pub made_is : (l : ℕ) (k : NumberType) (b : Bool) (f : Leaf) (ts : List Ty) → QuantileExact l ≡ f → number_ty k ≡ bare (first_type ts) → b ≡ any_null ts → IsOne ts →
    made_of (record { level = l; number = k; nullable = b }) ≡ made_for f ts
made_is l k b f ts e g h o =
    subst (λ m. made_of (record { level = l; number = k; nullable = b }) ≡ made_for m ts) e
    (ap₂ (λ c n. record { leaf = QuantileExact l; result = nullable_if c (number_ty k); arguments = n }) h (one_length ts o)
    ∙ ap (λ t. record { leaf = QuantileExact l; result = t; arguments = length ts }) (result_is k ts g))

pub fresh_stands : (m : Made) (ns : List ℤ) (f : Leaf) (ts : List Ty) → made_of m ≡ made_for f ts → ns ≡ [] → Stands f ts [] (held_with m ns)
fresh_stands m ns f ts e h = stands_for m ns f ts [] e (ap (λ l. ascending compare (map Num l)) h)

-- what a state means
pub default_number : (k : NumberType) → default (number_ty k) ≡ Num (pos 0)
default_number numbers.U8 = refl
default_number numbers.U16 = refl
default_number numbers.U32 = refl
default_number numbers.U64 = refl
default_number numbers.I8 = refl
default_number numbers.I16 = refl
default_number numbers.I32 = refl
default_number numbers.I64 = refl

pub ruleset values_of_none = (default_number)

abbrev value_with : Made → List ℤ → Value
value_with m ns =
    cond (is_empty ns) (default (nullable_if m.nullable (number_ty m.number))) (arg (quantile_place m.level (length ns)) (map Num (ascending int_cmp ns)))

empty_counted : {X Y : Type 0} (xs : List X) (ys : List Y) → length xs ≡ length ys → is_empty xs ≡ is_empty ys
empty_counted [] [] e = refl
empty_counted [] (y ∷ ys) e = absurd (omega (arith, e))
empty_counted (x ∷ xs) [] e = absurd (omega (arith, e))
empty_counted (x ∷ xs) (y ∷ ys) e = refl

value_is : (m : Made) (L : List (List Value)) (ns : List ℤ) → AreNumbersOf L ns →
    value_with m ns
    ≡ cond (is_empty L) (default (nullable_if m.nullable (number_ty m.number))) (arg (quantile_place m.level (length L)) (ascending compare (map the_arg L)))
value_is m L ns a =
    ap₂ (λ b v. cond b (default (nullable_if m.nullable (number_ty m.number))) v) (empty_counted ns L (numbers_counted L ns a))
    (ap₂ (λ n vs. arg (quantile_place m.level n) vs) (numbers_counted L ns a) (sym (ascending_numbers ns) ∙ a))

value_means : (m : Made) (ns : List ℤ) → Means (held_with m ns) (value_with m ns)
value_means m ns f ts L g a =
    value_is m (filter no_null L) ns (numbers_known m ns f ts L a)
    ∙ ap (λ d. leaf_meaning d.leaf ts (default d.result) (filter no_null L)) a.0

pub none_means : (m : Made) (ns : List ℤ) (v : Value) → ns ≡ [] → v ≡ default (nullable_if m.nullable (number_ty m.number)) → Means (held_with m ns) v
none_means m ns v e h = subst (Means (held_with m ns)) (ap (λ l. value_with m l) e ∙ sym h) (value_means m ns)

pub some_means : (m : Made) (ns : List ℤ) (n : ℕ) (v : Value) → (ns ≡ [] → ⊥) → n ≡ quantile_place m.level (length ns) → v ≡ arg n (map Num (ascending int_cmp ns)) → Means (held_with m ns) v
some_means m ns n v e g k = subst (Means (held_with m ns)) (go ns e ∙ ap (λ i. arg i (map Num (ascending int_cmp ns))) (sym g) ∙ sym k) (value_means m ns)
  where
    go : (l : List ℤ) → (l ≡ [] → ⊥) → value_with m l ≡ arg (quantile_place m.level (length l)) (map Num (ascending int_cmp l))
    go [] e = absurd (e refl)
    go (z ∷ l) e = refl

at_place : (ns : List ℤ) (i : ℕ) (d : ℤ) → i < length ns → arg i (map Num ns) ≡ Num (get_or ns i d)
at_place [] i d l = absurd (omega (arith, l))
at_place (n ∷ ns) zero d l = refl
at_place (n ∷ ns) (suc i) d l = at_place ns i d (omega (arith, l))

past_all : (ns : List ℤ) (i : ℕ) → length ns ≤ i → arg i (map Num ns) ≡ Nil
past_all [] i l = none i
  where
    none : (i : ℕ) → get_or (let l : List Value = [] in l) i Nil ≡ Nil
    none zero = refl
    none (suc i) = refl
past_all (n ∷ ns) zero l = absurd (omega (arith, l))
past_all (n ∷ ns) (suc i) l = past_all ns i (omega (arith, l))

pub selected : (ns : List ℤ) (i : ℕ) (n : ℤ) → i < length ns → ((d : ℤ) → get_or (ascending int_cmp ns) i d ≡ n) → value_of (value.Num n) ≡ arg i (map Num (ascending int_cmp ns))
selected ns i n l h =
    value_of-Num n ∙ ap Num (sym (h (pos 0)))
    ∙ sym (at_place (ascending int_cmp ns) i (pos 0) (omega (arith, l, length-ascending int_cmp ns)))

pub beyond : (ns : List ℤ) (i : ℕ) → length ns ≤ i → value_of value.Nil ≡ arg i (map Num (ascending int_cmp ns))
beyond ns i l = value_of-Nil ∙ sym (past_all (ascending int_cmp ns) i (omega (arith, l, length-ascending int_cmp ns)))

-- whether there was a row
fed_told : (m : Made) (ns : List ℤ) → IsFedBy (held_with m ns) (not (is_empty ns))
fed_told m ns f ts L a = ap not (empty_counted ns (filter no_null L) (numbers_counted (filter no_null L) ns (numbers_known m ns f ts L a)))

told : (ns : List ℤ) (b : Bool) → (b ≡ true → ns ≡ []) → (ns ≡ [] → b ≡ true) → b ≡ is_empty ns
told [] b e g = g refl
told (n ∷ ns) true e g = absurd (true≢false (sym (ap is_empty (e refl))))
told (n ∷ ns) false e g = refl

pub fed_when : (m : Made) (ns : List ℤ) (b : Bool) → (b ≡ true → ns ≡ []) → (ns ≡ [] → b ≡ true) → IsFedBy (held_with m ns) (not b)
fed_when m ns b e g = subst (λ c. IsFedBy (held_with m ns) (not c)) (sym (told ns b e g)) (fed_told m ns)

-- the tree, and the state with a tree
numbers_back : (t : Ty) → IsNumberType t → (vs : List Value) → Each (IsPlain t) vs → map Num (map number vs) ≡ vs
numbers_back t s [] k = refl
numbers_back t s (v ∷ vs) k = ap₂ ◌∷◌ (sym (plain_number t s v k.0)) (numbers_back t s vs k.1)

valued : (ns : List ℤ) → map value_of (map value.Num ns) ≡ map Num ns
valued [] = refl
valued (n ∷ ns) = ap₂ ◌∷◌ (value_of-Num n) (valued ns)

pub tree_made : (vs : List coded.Value) (all ns : List ℤ) → vs ≡ map value.Num all → all ≡ ascending int_cmp ns → tree_of (tree.Values vs) ≡ values_tree (ascending compare (map Num ns))
tree_made vs all ns e h =
    tree_of-Values vs
    ∙ ap values_tree (ap (map value_of) e ∙ valued all ∙ ap (map Num) h ∙ sym (ascending_numbers ns))

pub tree_back : (m : Made) (f : Leaf) (ts : List Ty) (t : Tree) (ns : List ℤ) → made_of m ≡ made_for f ts → ns ≡ map number (values_of t) → IsTree (Of f) ts t → values_tree (ascending compare (map Num ns)) ≡ t
tree_back m f ts t ns e h k = ap (λ l. values_tree (ascending compare (map Num l))) h ∙ go (subst (λ g. IsTree (Of g) ts t) same k)
  where
    same : f ≡ QuantileExact m.level
    same = sym (ap (λ z. z.leaf) e)

    go : IsTree (Of (QuantileExact m.level)) ts t → values_tree (ascending compare (map Num (map number (values_of t)))) ≡ t
    go k =
        ap (λ u. values_tree (ascending compare (map Num (map number (values_of u))))) k.1
        ∙ ap (λ vs. values_tree (ascending compare (map Num (map number vs)))) (values_back k.0)
        ∙ ap (λ vs. values_tree (ascending compare vs)) (numbers_back (bare (first_type ts)) (made_number m ts (e ∙ ap (λ g. made_for g ts) same)) k.0 k.2)
        ∙ ap values_tree (ordered_is compare value_order k.0 k.3)
        ∙ sym k.1
