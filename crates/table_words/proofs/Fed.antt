-- That a table fed rows by the places of their keys is the table of its contributions and the rows.
use Rattle.std.proofs.Common.{◌≡◌, ◌⊎◌, ℕ, zero, suc, ◌<◌, ◌≤◌, Bool, true, false, cond, List, [], ◌∷◌, ◌++◌, length, map, get_or, refl, sym, ap, subst, ◌∙◌, arith, inl, inr, true≢false}
use Rattle.std.specs.Cmp.{IsEquivalence, IsTotalOrder, eq_by_cmp_equiv}
use Rattle.std.specs.List.{All, IsDistinct, list_any}
use Rattle.std.specs.Ordering.{is_eq}
use Rattle.std.proofs.lemmas.Bool.{cases_lt, cond_both, false_from_ne_true}
use Rattle.std.proofs.lemmas.Grind.{flat_map-append}
use Rattle.std.proofs.lemmas.List.{get_or_default, map-append}
use Rattle.std.proofs.lemmas.List.Folds.{list_any_none}
use Rattle.std.proofs.lemmas.Map.Keys.{apart_from_distinct}
use Rattle.indexmap.specs.IndexSet.{insert_key}
use Rattle.agg_terms.specs.Lists.{Each, is_empty}
use Rattle.agg_terms.specs.Order.{compare_rows}
use Rattle.agg_terms.specs.Values.{Empty, Tree, Value}
use Rattle.agg_terms.proofs.Comparing.{rows_order}
use Rattle.agg_meaning.specs.Feeds.{IsFeed, opened}
use Rattle.agg_meaning.specs.Laws.{AreFeeds, IsLegal}
use Rattle.agg_meaning.specs.Results.{blank}
use Rattle.agg_meaning.specs.States.{StandsFor}
use Rattle.agg_meaning.specs.Suffixes.{normal}
use Rattle.agg_meaning.specs.Views.{AreContributions, Call, Contribution, IsLegalView, View, call_at, feeds_of, first_groups, items_at, of_row}
use Rattle.agg_meaning.proofs.Blank.{of_none}
use Rattle.table_words.specs.KeyLists.{keys_with, places_of, reaching}
use Rattle.table_words.specs.Laws.{RowsAreFed, TakesRows, arguments_of, row_keys}
use Rattle.table_words.specs.Tables.{IsTable, keys_in, same_tuple, tree_at}
use Rattle.table_words.proofs.KeysWith.{IsDistinct-insert_key, IsDistinct-keys_with, get_or-keys_with, keys_with-append, list_any-inserted, list_any-keys_with, place_tells}

-- ---- tuples are the same where they are equal
order : IsTotalOrder compare_rows
order = record { antisymm = rows_order.flip; trans = rows_order.trans; congr = λ x y z e. ap (λ w. compare_rows w z) (rows_order.same x y e) }

pub tuples : IsEquivalence same_tuple
tuples = eq_by_cmp_equiv order

-- ---- feeds of a group
pub feeds-append : (v : View) (g : List Value) (i : ℕ) (A B : List (Contribution v)) → feeds_of v g i (A ++ B) ≡ feeds_of v g i A ++ feeds_of v g i B
feeds-append v g i A B = flat_map-append (λ c. cond (is_eq (compare_rows g c.0)) (c.1 i) []) A B

abbrev pub keys_of : (v : View) → List (Contribution v) → List (List Value)
keys_of v C = map (λ c. c.0) C

-- a key that no contribution has brings nothing
pub feeds-absent : (v : View) (i : ℕ) (g : List Value) (ks : List (List Value)) (C : List (Contribution v))
    → list_any (same_tuple g) (keys_with same_tuple ks (keys_of v C)) ≡ false → feeds_of v g i C ≡ []
feeds-absent v i g ks [] h = refl
feeds-absent v i g ks (c ∷ C) h =
    let other : same_tuple g c.0 ≡ false = false_from_ne_true (same_tuple g c.0) (λ t.
    true≢false (sym (list_any-keys_with same_tuple tuples (insert_key same_tuple ks c.0) (keys_of v C) g (list_any-inserted same_tuple tuples ks c.0 g t)) ∙ h)) in
    ap (λ b. cond b (c.1 i) [] ++ feeds_of v g i C) other ∙ feeds-absent v i g (insert_key same_tuple ks c.0) C h

-- what reaches the place of a key is what the rows of that key bring
feeds-reaching : (v : View) (i : ℕ) (ks : List (List Value)) (rows : List (List Value)) (g : ℕ) → IsDistinct same_tuple ks
    → g < length (keys_with same_tuple ks (row_keys v rows))
    → map (opened (call_at v.calls i).chain) (reaching g (places_of same_tuple ks (row_keys v rows)) (arguments_of v i rows))
    ≡ feeds_of v (get_or (keys_with same_tuple ks (row_keys v rows)) g []) i (map (of_row v) rows)
feeds-reaching v i ks [] g d h = refl
feeds-reaching v i ks (row ∷ rows) g d h =
    let k = items_at v.keys row in
    let f = opened (call_at v.calls i).chain in
    let x = items_at (call_at v.calls i).columns row in
    let rest = reaching g (places_of same_tuple (insert_key same_tuple ks k) (row_keys v rows)) (arguments_of v i rows) in
    ap (λ b. map f (cond b (x ∷ rest) rest)) (place_tells same_tuple tuples ks (row_keys v rows) k g [] d h)
    ∙ by f x rest (same_tuple (get_or (keys_with same_tuple ks (row_keys v (row ∷ rows))) g []) k)
    (feeds_of v (get_or (keys_with same_tuple ks (row_keys v (row ∷ rows))) g []) i (map (of_row v) rows))
    (feeds-reaching v i (insert_key same_tuple ks k) rows g (IsDistinct-insert_key same_tuple tuples ks k d) h)
  where
    by : {X F : Type 0} (f : X → F) (x : X) (rest : List X) (b : Bool) (fs : List F) → map f rest ≡ fs → map f (cond b (x ∷ rest) rest) ≡ cond b (f x ∷ []) [] ++ fs
    by f x rest true fs e = ap (λ l. f x ∷ l) e
    by f x rest false fs e = e

keys-rows : (v : View) (rows : List (List Value)) → keys_of v (map (of_row v) rows) ≡ row_keys v rows
keys-rows v [] = refl
keys-rows v (row ∷ rows) = ap (λ l. items_at v.keys row ∷ l) (keys-rows v rows)

-- the feeds of a group are feeds of the call
each-append : {X : Type 0} (P : X → Type 0) (xs ys : List X) → Each P xs → Each P ys → Each P (xs ++ ys)
each-append P [] ys a b = b
each-append P (x ∷ xs) ys a b = (a.0, each-append P xs ys a.1 b)

feeds-here : (v : View) (C : List (Contribution v)) (g : List Value) (i : ℕ) → i < length v.calls → AreContributions v C
    → AreFeeds (call_at v.calls i).chain (call_at v.calls i).types (feeds_of v g i C)
feeds-here v [] g i h all = tt
feeds-here v (c ∷ C) g i h all =
    each-append (IsFeed (call_at v.calls i).chain (call_at v.calls i).types) (cond (is_eq (compare_rows g c.0)) (c.1 i) []) (feeds_of v g i C)
    (cond_both (is_eq (compare_rows g c.0)) (c.1 i) [] (λ l. AreFeeds (call_at v.calls i).chain (call_at v.calls i).types l) (λ _. all.0 i h) (λ _. tt))
    (feeds-here v C g i h all.1)

pub legal-at : (calls : List Call) (i : ℕ) → i < length calls → Each (λ c. IsLegal c.chain c.types) calls → IsLegal (call_at calls i).chain (call_at calls i).types
legal-at [] i h all = absurd (omega (arith, h))
legal-at (c ∷ calls) zero h all = all.0
legal-at (c ∷ calls) (suc i) h all = legal-at calls i (omega (arith, h)) all.1

-- ---- keys
distinct-first : (v : View) → IsDistinct same_tuple (first_groups v)
unfolding IsDistinct
distinct-first v = cond_both (is_empty v.keys) ([] ∷ []) [] (IsDistinct same_tuple) (λ _. IsDistinct-insert_key same_tuple tuples [] [] tt) (λ _. tt)

pub distinct-keys : (v : View) (C : List (Contribution v)) → IsDistinct same_tuple (keys_in v C)
distinct-keys v C = IsDistinct-keys_with same_tuple tuples (first_groups v) (keys_of v C) (distinct-first v)

-- a key that wasn't there is none of those that were
new-key : (ks more : List (List Value)) (g : ℕ) → IsDistinct same_tuple (keys_with same_tuple ks more) → length ks ≤ g → g < length (keys_with same_tuple ks more)
    → list_any (same_tuple (get_or (keys_with same_tuple ks more) g [])) ks ≡ false
new-key ks more g distinct le h = list_any_none (same_tuple (get_or (keys_with same_tuple ks more) g [])) ks apart
  where
    apart : All (λ x. same_tuple (get_or (keys_with same_tuple ks more) g []) x ≡ false) ks
    apart j d hj =
        tuples.symm _ _
        ∙ ap (λ x. same_tuple x (get_or (keys_with same_tuple ks more) g []))
        (sym (get_or-keys_with same_tuple ks more j d hj) ∙ get_or_default (keys_with same_tuple ks more) j d [] (omega (arith, hj, le, h)))
        ∙ apart_from_distinct same_tuple (keys_with same_tuple ks more) j g [] distinct (omega (arith, hj, le)) h

past-end : (xs : List Tree) (i : ℕ) (d : Tree) → length xs ≤ i → get_or xs i d ≡ d
past-end [] i d h = refl
past-end (x ∷ xs) zero d h = absurd (omega (arith, h))
past-end (x ∷ xs) (suc i) d h = past-end xs i d (omega (arith, h))

-- ---- what a tree stood for before other keys came
module _ (v : View) (C : List (Contribution v)) (ks more : List (List Value)) (old : ℕ → List Tree) (table : IsTable v C ks old) where
  pub distinct : IsDistinct same_tuple ks
  distinct = subst (IsDistinct same_tuple) (sym table.keys) (distinct-keys v C)

  pub stood : (i : ℕ) → i < length v.calls → (g : ℕ) → g < length (keys_with same_tuple ks more)
      → StandsFor (call_at v.calls i).chain (call_at v.calls i).types (feeds_of v (get_or (keys_with same_tuple ks more) g []) i C) (tree_at v i (old i) g)
  stood i hi g h = by (cases_lt g (length ks))
    where
      k : List Value
      k = get_or (keys_with same_tuple ks more) g []

      by : (g < length ks) ⊎ (length ks ≤ g)
          → tree_at v i (old i) g ≡ normal (call_at v.calls i).chain (call_at v.calls i).types (feeds_of v (get_or (keys_with same_tuple ks more) g []) i C)
      by (inl there) =
          get_or_default (old i) g (blank (call_at v.calls i).chain) Empty (subst (λ n. g < n) (sym (table.long i hi)) there)
          ∙ table.trees i hi g there
          ∙ ap (λ key. normal (call_at v.calls i).chain (call_at v.calls i).types (feeds_of v key i C)) (sym (get_or-keys_with same_tuple ks more g [] there))
      by (inr later) =
          past-end (old i) g (blank (call_at v.calls i).chain) (subst (λ n. n ≤ g) (sym (table.long i hi)) later)
          ∙ sym (of_none (call_at v.calls i).chain (call_at v.calls i).types)
          ∙ ap (normal (call_at v.calls i).chain (call_at v.calls i).types)
          (sym (feeds-absent v i (get_or (keys_with same_tuple ks more) g []) (first_groups v) C
          (ap (list_any (same_tuple (get_or (keys_with same_tuple ks more) g []))) (sym table.keys)
          ∙ new-key ks more g (IsDistinct-keys_with same_tuple tuples ks more distinct) later h)))

-- ---- the table
module _ (v : View) (C : List (Contribution v)) (ks rows : List (List Value)) (old new : ℕ → List Tree)
    (legal : IsLegalView v) (brought : AreContributions v (map (of_row v) rows)) (table : IsTable v C ks old) where
  keys-all : keys_with same_tuple ks (row_keys v rows) ≡ keys_in v (C ++ map (of_row v) rows)
  keys-all =
      ap (λ l. keys_with same_tuple l (row_keys v rows)) table.keys
      ∙ sym (keys_with-append same_tuple (first_groups v) (keys_of v C) (row_keys v rows))
      ∙ ap (λ l. keys_with same_tuple (first_groups v) (keys_of v C ++ l)) (sym (keys-rows v rows))
      ∙ ap (keys_with same_tuple (first_groups v)) (sym (map-append (λ c. c.0) C (map (of_row v) rows)))

  fed : TakesRows v rows (places_of same_tuple ks (row_keys v rows)) (length (keys_with same_tuple ks (row_keys v rows))) old new
      → IsTable v (C ++ map (of_row v) rows) (keys_with same_tuple ks (row_keys v rows)) new
  fed takes = record {
    keys = keys-all;
    long = takes.long;
    trees = λ i hi g h.
        let k = get_or (keys_with same_tuple ks (row_keys v rows)) g [] in
        let c = (call_at v.calls i).chain in
        let ts = (call_at v.calls i).types in
        let reached = feeds-reaching v i ks rows g (distinct v C ks (row_keys v rows) old table) h in
        let feeds = subst (λ fs. AreFeeds c ts fs) (sym reached) (feeds-here v (map (of_row v) rows) k i hi brought) in
        takes.trees i hi g h (feeds_of v k i C) (legal-at v.calls i hi legal) feeds (stood v C ks (row_keys v rows) old table i hi g h)
        ∙ ap (λ fs. normal c ts (feeds_of v k i C ++ fs)) reached
        ∙ ap (normal c ts) (sym (feeds-append v k i C (map (of_row v) rows)));
  }

pub rows_are_fed : RowsAreFed
rows_are_fed v C ks rows old new legal brought table takes = fed v C ks rows old new legal brought table takes
