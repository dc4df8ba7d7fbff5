-- A tuple in view of all those before it, and put behind them.
use Rattle.std.proofs.Common.{◌≡◌, ℕ, ◌+◌, ◌-◌, ◌<◌, Bool, true, false, not, ◌&&◌, ◌||◌, cond, if◌then◌else◌, List, [], ◌∷◌, ◌++◌, map, Ordering, Less, Equal, Greater, Ok, Err, refl, sym, ap, subst, ◌∙◌, append_assoc, append-nil}
use Rattle.std.specs.List.{list_all, list_any}
use Rattle.std.specs.Ordering.{eq_by_cmp, is_eq, ordering_reverse}
use Rattle.std.proofs.lemmas.List.{map-append, map_push}
use Rattle.indexmap.specs.IndexSet.{insert_key}
use Rattle.agg_terms.specs.Lists.{some}
use Rattle.agg_terms.specs.Order.{compare_rows}
use Rattle.agg_terms.specs.Values as family
use Rattle.agg_terms.proofs.Comparing.{rows_order}
use Rattle.set_leaves.specs.Tuples.{values_cmp, values_tuple}
use Rattle.set_leaves.specs.declared.tuple.Tuple.{Tuple}
use Rattle.value_types.specs.Folds.{value_of}
use Rattle.value_types.specs.declared.value.Value.{Value}
use Rattle.state_codec.specs.declared.decode_fault.DecodeFault.{DecodeFault}
use Rattle.state_codec.specs.declared.decode_fault.DecodeFault.TheVariants as faults
use Rattle.state_codec.specs.Gives.{Fails}
use Rattle.state_codec.specs.Reading.{Read, is_new, items_at, made}
use Rattle.state_codec.specs.proving.Views.{behind, kept_rows, with_front}
use Rattle.state_codec.proofs.Exact.{bind_ok, ok_is}
use Rattle.state_codec.proofs.Loop.{goes_on}

module _ {Y : Type 0} (p : Y → Bool) where
  some_last : (xs : List Y) (y : Y) → some p (xs ++ y ∷ []) ≡ cond (p y) true (some p xs)
  some_last [] y = refl
  some_last (x ∷ xs) y = ap (λ b. cond (p x) true b) (some_last xs y) ∙ turn (p x) (p y) (some p xs)
    where
      turn : (a b c : Bool) → cond a true (cond b true c) ≡ cond b true (cond a true c)
      turn true true c = refl
      turn true false c = refl
      turn false true c = refl
      turn false false c = refl

  some_behind : (xs : List Y) → some p (behind xs) ≡ some p xs
  some_behind [] = refl
  some_behind (x ∷ xs) = some_last (behind xs) x ∙ ap (λ b. cond (p x) true b) (some_behind xs)

none_is : {X Y : Type 0} (p : Y → Bool) (f : X → Y) (xs : List X) → not (some p (map f xs)) ≡ list_all (λ x. not (p (f x))) xs
none_is p f [] = refl
none_is p f (x ∷ xs) = go (p (f x)) (none_is p f xs)
  where
    go : (b : Bool) → not (some p (map f xs)) ≡ list_all (λ x. not (p (f x))) xs → not (cond b true (some p (map f xs))) ≡ not b && list_all (λ x. not (p (f x))) xs
    go true h = refl
    go false h = h

pub new_is : {X Y : Type 0} (f : X → Y) (cmp : Y → Y → Ordering) (earlier : List X) (y : Y) → is_new cmp (behind (map f earlier)) y ≡ list_all (λ x. not (is_eq (cmp (f x) y))) earlier
new_is f cmp earlier y = ap not (some_behind (λ x. is_eq (cmp x y)) (map f earlier)) ∙ none_is (λ x. is_eq (cmp x y)) f earlier

-- ---- by keys

abbrev row_in : Tuple → List family.Value
row_in t = values_tuple t.values

abbrev same : Tuple → Tuple → Bool
same a b = eq_by_cmp values_cmp a.values b.values

either_way : (a b : List family.Value) → is_eq (compare_rows a b) ≡ is_eq (compare_rows b a)
either_way a b = ap is_eq (rows_order.flip a b) ∙ turn (compare_rows b a)
  where
    turn : (o : Ordering) → is_eq (ordering_reverse o) ≡ is_eq o
    turn Less = refl
    turn Equal = refl
    turn Greater = refl

none_same : (k : Tuple) (ks : List Tuple) → not (list_any (same k) ks) ≡ list_all (λ x. not (is_eq (compare_rows (row_in x) (row_in k)))) ks
none_same k [] = refl
none_same k (x ∷ xs) = ap (λ b. not (b || list_any (same k) xs)) (either_way (row_in k) (row_in x)) ∙ go (is_eq (compare_rows (row_in x) (row_in k))) (none_same k xs)
  where
    go : (b : Bool) → not (list_any (same k) xs) ≡ list_all (λ y. not (is_eq (compare_rows (row_in y) (row_in k)))) xs →
        not (b || list_any (same k) xs) ≡ not b && list_all (λ y. not (is_eq (compare_rows (row_in y) (row_in k)))) xs
    go true h = refl
    go false h = h

pub is_fresh : (ks : List Tuple) (k : Tuple) → not (list_any (same k) ks) ≡ is_new compare_rows (behind (kept_rows ks)) (row_in k)
is_fresh ks k = none_same k ks ∙ sym (new_is row_in compare_rows ks (row_in k))

pub is_behind : (ks new : List Tuple) (k : Tuple) (fresh : Bool) → fresh ≡ not (list_any (same k) ks) → new ≡ insert_key same ks k → fresh ≡ true → kept_rows new ≡ kept_rows ks ++ row_in k ∷ []
is_behind ks new k fresh f e t = ap kept_rows e ∙ go (list_any (same k) ks) (sym f ∙ t)
  where
    go : (b : Bool) → not b ≡ true → kept_rows (if b then ks else ks ++ k ∷ []) ≡ kept_rows ks ++ row_in k ∷ []
    go true h = absurd cc
    go false h = map-append row_in ks (k ∷ [])

-- ---- out of the set

pub none_moved : (rows : List (List Value)) (left keys : List Tuple) → rows ≡ [] → left ≡ keys → map (map value_of) rows ++ kept_rows left ≡ kept_rows keys
none_moved rows left keys r e = ap (λ z. map (map value_of) z ++ kept_rows left) r ∙ ap kept_rows e

pub one_moved : (rows new : List (List Value)) (left rest : List Tuple) (t : Tuple) (all : List (List family.Value)) → left ≡ t ∷ rest → new ≡ rows ++ t.values ∷ []
    → map (map value_of) rows ++ kept_rows left ≡ all → map (map value_of) new ++ kept_rows rest ≡ all
one_moved rows new left rest t all e n h =
    ap (λ z. map (map value_of) z ++ kept_rows rest) n
    ∙ ap (λ z. z ++ kept_rows rest) (map_push (map value_of) rows t.values)
    ∙ append_assoc (map (map value_of) rows) (map value_of t.values ∷ []) (kept_rows rest)
    ∙ ap (λ z. map (map value_of) rows ++ kept_rows z) (sym e)
    ∙ h

pub all_moved : (rows : List (List Value)) (left : List Tuple) (all : List (List family.Value)) → left ≡ [] → map (map value_of) rows ++ kept_rows left ≡ all → map (map value_of) rows ≡ all
all_moved rows left all e h = sym (append-nil (map (map value_of) rows)) ∙ ap (λ z. map (map value_of) rows ++ kept_rows z) (sym e) ∙ h

-- ---- an item that is put behind others

module _ {X : Type 0} (read : List X → List ℕ → Read X) (front : List X) where
  pub goes_behind : (new : List X) (count i : ℕ) (bytes after : List ℕ) (total : Read (List X)) → i < count → made (λ x. front ++ x ∷ []) (read (behind front) bytes) ≡ Ok (new, after)
      → with_front front (items_at read (count - i) (behind front) bytes) ≡ total → with_front new (items_at read (count - (i + 1)) (behind new) after) ≡ total
  goes_behind new count i bytes after total lt h so_far =
      let b = bind_ok (read (behind front) bytes) (λ x. Ok (front ++ x.0 ∷ [], x.1)) (new, after) h in
      subst (λ (z : List X × List ℕ). with_front z.0 (items_at read (count - (i + 1)) (behind z.0) z.1) ≡ total) (ok_is (front ++ b.0.0 ∷ [], b.0.1) (new, after) b.2)
      (goes_on read front count i bytes b.0.0 b.0.1 total lt b.1 so_far)

  pub fails_behind : (e : DecodeFault) (bytes : List ℕ) → Fails e (made (λ x. front ++ x ∷ []) (read (behind front) bytes)) → Fails e (read (behind front) bytes)
  fails_behind faults.OutOfMemory bytes h = tt
  fails_behind (faults.Bad f) bytes h = go (read (behind front) bytes) h
    where
      go : (r : Read X) → made (λ x. front ++ x ∷ []) r ≡ Err f → r ≡ Err f
      go (Ok x) h = absurd cc
      go (Err d) h = cc
