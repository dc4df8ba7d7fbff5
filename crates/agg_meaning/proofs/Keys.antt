-- From the words of the states at keys to those of -Map, where a key that isn't there has the state of no rows; and
-- -Distinct.
use Rattle.std.proofs.Common.{◌≡◌, ◌≢◌, Bool, true, cond, List, [], ◌∷◌, ◌++◌, map, Option, ◌⊎◌, inl, inr, refl, sym, ap, ap₂, ◌∙◌, subst, Ordering, Less, Equal, Greater}
use Rattle.std.specs.Prelude.{filter, flat_map}
use Rattle.std.specs.Ordering.{is_eq}
use Rattle.std.proofs.lemmas.List.Concat.{flat_map-append}
use Rattle.std.proofs.lemmas.List.Elements.{filter-append}
use Rattle.agg_terms.specs.Values.{Tree, Value, keyed_tree, map_value, rows_tree}
use Rattle.agg_terms.specs.Chains.{Chain, Distinct, MapOf, Ty}
use Rattle.agg_terms.specs.Lists.{Apart, Each, some}
use Rattle.agg_terms.specs.Order.{before_others, compare, compare_rows, different, firsts, into_set}
use Rattle.agg_terms.specs.Types.{first_type, inward, key_type}
use Rattle.agg_terms.specs.Trees.{IsPlain}
use Rattle.agg_meaning.specs.Feeds.{AreValues, Feed, IsFeed, no_null, opened}
use Rattle.agg_meaning.specs.Laws.{AreFeeds, IsLegal}
use Rattle.agg_meaning.specs.Results.{blank}
use Rattle.agg_meaning.specs.States.{IsFedChain, Joins, MeansChain, StandsFor, TakesFeeds}
use Rattle.agg_meaning.specs.Suffixes.{at_key, fed, keys_of, meaning, normal}
use Rattle.agg_terms.proofs.Comparing.{compare_order, rows_order}
use Rattle.agg_terms.proofs.Generic.{Among}
use Rattle.agg_terms.proofs.Sorting.{firsts_steady, itself, set_steady, steady_joins}
use Rattle.agg_meaning.proofs.Blank.{of_none}
use Rattle.agg_meaning.proofs.ChainLaws.{keyed_same, rows_same, table_keys}
use Rattle.agg_meaning.proofs.Formed.{key_here}
use Rattle.agg_meaning.proofs.Kept.{different_order, each_firsts, each_flat_map, each_kept}
use Rattle.agg_meaning.proofs.Links.{key_covered}
use Rattle.agg_meaning.proofs.Spread.{map_each}
use Rattle.agg_meaning.proofs.Suffixed.{picked_joins, picked_takes}
use Rattle.agg_meaning.proofs.TreeLaws.{rising_apart, test_apart}

-- the entry of a key, or what stands for none
abbrev pub found : {X : Type 0} → X → List (Value × X) → Value → X
found d [] k = d
found d (e ∷ es) k = cond (is_eq (compare k e.0)) e.1 (found d es k)

abbrev pub keys : {X : Type 0} → List (Value × X) → List Value
keys es = map (λ e. e.0) es

found_own : {X : Type 0} (f : Value → X) (ks : List Value) (k : Value) → found (f k) (map (λ j. (j, f j)) ks) k ≡ f k
found_own f [] k = refl
found_own f (j ∷ ks) k = go (compare k j) refl (found_own f ks k)
  where
    go : (o : Ordering) → compare k j ≡ o → found (f k) (map (λ i. (i, f i)) ks) k ≡ f k → cond (is_eq (compare k j)) (f j) (found (f k) (map (λ i. (i, f i)) ks) k) ≡ f k
    go Less e r = rw e r
    go Equal e r = rw e (ap f (sym (compare_order.same k j e)))
    go Greater e r = rw e r

found_there : {X : Type 0} (f : Value → X) (d g : X) (ks : List Value) (k : Value) → Among k ks → found d (map (λ j. (j, f j)) ks) k ≡ found g (map (λ j. (j, f j)) ks) k
found_there f d g [] k a = absurd a
found_there f d g (j ∷ ks) k (inl e) = subst (λ i. found d (map (λ z. (z, f z)) (i ∷ ks)) k ≡ found g (map (λ z. (z, f z)) (i ∷ ks)) k) e (rw (itself compare compare_order k) refl)
found_there f d g (j ∷ ks) k (inr a) = ap (cond (is_eq (compare k j)) (f j)) (found_there f d g ks k a)

-- entries of keys that are apart are what is found at their keys
by_keys : {X : Type 0} (d : X) (es : List (Value × X)) → Apart (keys es) → es ≡ map (λ k. (k, found d es k)) (keys es)
by_keys d [] a = refl
by_keys d (e ∷ es) a =
    ap₂ ◌∷◌ (rw (itself compare compare_order e.0) refl)
    (by_keys d es a.1 ∙ map_each (λ k. e.0 ≢ k) (λ k. (k, found d es k)) (λ k. (k, found d (e ∷ es) k)) (λ k n. ap (λ x. (k, x)) (sym (later k n))) (keys es) a.0)
  where
    later : (k : Value) → e.0 ≢ k → found d (e ∷ es) k ≡ found d es k
    later k n = rw (test_apart compare compare_order k e.0 (λ q. n (sym q))) refl

by_keys_of : {X : Type 0} (d : X) (f : Value → X) (es : List (Value × X)) (ks : List Value) → Apart ks → keys es ≡ ks → ((k : Value) → found d es k ≡ f k) → es ≡ map (λ k. (k, f k)) ks
by_keys_of d f es ks a e h =
    by_keys d es (subst Apart (sym e) a) ∙ each (keys es) ∙ ap (map (λ k. (k, f k))) e
  where
    each : (js : List Value) → map {B = Value × _} (λ k. (k, found d es k)) js ≡ map (λ k. (k, f k)) js
    each [] = refl
    each (j ∷ js) = ap₂ ◌∷◌ (ap (λ x. (j, x)) (h j)) (each js)

module _ (c : Chain) (ts : List Ty) where
  abbrev key_ts : List Ty
  key_ts = inward (MapOf c) ts

  abbrev at : Value → List (List (Value × Option (Feed c))) → List (Feed c)
  at k L = flat_map (at_key k) L

  keys_apart : (L : List (List (Value × Option (Feed c)))) → Apart (keys_of L)
  keys_apart L = rising_apart compare compare_order (keys_of L) (different_order compare compare_order (flat_map (λ f. map (λ e. e.0) f) L))

  pub keys_stand : (L : List (List (Value × Option (Feed c)))) (es : List (Value × Tree)) → StandsFor (MapOf c) ts L (keyed_tree es) → keys es ≡ keys_of L
  keys_stand L es h = ap keys (keyed_same _ _ h) ∙ table_keys (λ k. normal c key_ts (at k L)) (keys_of L)

  pub entry_stands : (L : List (List (Value × Option (Feed c)))) (es : List (Value × Tree)) → StandsFor (MapOf c) ts L (keyed_tree es) → (k : Value) → StandsFor c key_ts (at k L) (found (blank c) es k)
  entry_stands L es h k = ap (λ z. found (blank c) z k) (keyed_same _ _ h) ∙ go (key_covered L k) ∙ found_own f (keys_of L) k
    where
      f : Value → Tree
      f j = normal c key_ts (at j L)

      go : Among k (keys_of L) ⊎ (at k L ≡ []) → found (blank c) (map (λ j. (j, normal c key_ts (at j L))) (keys_of L)) k ≡ found (normal c key_ts (at k L)) (map (λ j. (j, normal c key_ts (at j L))) (keys_of L)) k
      go (inl a) = found_there (λ j. normal c key_ts (at j L)) (blank c) (normal c key_ts (at k L)) (keys_of L) k a
      go (inr n) = ap (λ d. found d (map (λ j. (j, normal c key_ts (at j L))) (keys_of L)) k) (sym (ap (normal c key_ts) n ∙ of_none c key_ts))

  pub entries_stand : (L : List (List (Value × Option (Feed c)))) (es : List (Value × Tree)) → keys es ≡ keys_of L → ((k : Value) → StandsFor c key_ts (at k L) (found (blank c) es k)) → StandsFor (MapOf c) ts L (keyed_tree es)
  entries_stand L es e h = ap keyed_tree (by_keys_of (blank c) (λ k. normal c key_ts (at k L)) es (keys_of L) (keys_apart L) e h)

  -- the keys of feeds, and of two lists joined
  keys_added : (A B : List (List (Value × Option (Feed c)))) → keys_of (A ++ B) ≡ different compare (keys_of A ++ keys_of B)
  keys_added A B =
      ap (different compare) (flat_map-append (λ f. map (λ e. e.0) f) A B)
      ∙ steady_joins step (set_steady compare compare_order) (names A) (keys_of A) (names B) (keys_of B) (sym (once A)) (sym (once B))
    where
      step : Value → List Value → List Value
      step = into_set compare

      names : List (List (Value × Option (Feed c))) → List Value
      names L = flat_map (λ f. map (λ e. e.0) f) L

      once : (L : List (List (Value × Option (Feed c)))) → different compare (keys_of L) ≡ keys_of L
      once L = set_steady compare compare_order [] (names L)

  -- -Map: each key takes what the feed has there
  pub map_takes : (f : List (Value × Option (Feed c))) (es after : List (Value × Tree)) → keys after ≡ different compare (keys es ++ keys_of (f ∷ [])) →
      ((k : Value) → TakesFeeds c key_ts (at_key k f) (found (blank c) es k) (found (blank c) after k)) → TakesFeeds (MapOf c) ts (f ∷ []) (keyed_tree es) (keyed_tree after)
  map_takes f es after e a = λ L l i h.
      entries_stand (L ++ f ∷ []) after (e ∙ ap (λ z. different compare (z ++ keys_of (f ∷ []))) (keys_stand L es h) ∙ sym (keys_added L (f ∷ [])))
      (λ k. picked_takes c key_ts (at_key k) L f (found (blank c) after k) (a k (at k L) l (key_here (IsPlain (key_type (first_type ts))) (IsFeed c key_ts) k f i.0) (entry_stands L es h k)))

  pub map_joins : (es us after : List (Value × Tree)) → keys after ≡ different compare (keys es ++ keys us) →
      ((k : Value) → Joins c key_ts (found (blank c) es k) (found (blank c) us k) (found (blank c) after k)) → Joins (MapOf c) ts (keyed_tree es) (keyed_tree us) (keyed_tree after)
  map_joins es us after e a = λ A B h k.
      entries_stand (A ++ B) after (e ∙ ap₂ (λ x y. different compare (x ++ y)) (keys_stand A es h) (keys_stand B us k) ∙ sym (keys_added A B))
      (λ j. picked_joins c key_ts (at_key j) A B (found (blank c) after j) (a j (at j A) (at j B) (entry_stands A es h j) (entry_stands B us k j)))

  keyed : (L : List (List (Value × Option (Feed c)))) → AreFeeds (MapOf c) ts L → (k : Value) → AreFeeds c key_ts (at k L)
  keyed L p k = each_flat_map (IsFeed (MapOf c) ts) (IsFeed c key_ts) (at_key k) (λ f q. key_here (IsPlain (key_type (first_type ts))) (IsFeed c key_ts) k f q) L p

  pub map_means : (es : List (Value × Tree)) (value : Value → Value) → ((k : Value) → MeansChain c key_ts (found (blank c) es k) (value k)) →
      MeansChain (MapOf c) ts (keyed_tree es) (map_value (map (λ k. (k, value k)) (keys es)))
  map_means es value a = λ L l p h. ap map_value (ap (map (λ k. (k, value k))) (keys_stand L es h) ∙ each L l p h (keys_of L))
    where
      each : (L : List (List (Value × Option (Feed c)))) → IsLegal (MapOf c) ts → AreFeeds (MapOf c) ts L → StandsFor (MapOf c) ts L (keyed_tree es) → (ks : List Value) → map {B = Value × Value} (λ k. (k, value k)) ks ≡ map (λ k. (k, meaning c key_ts (at k L))) ks
      each L l p h [] = refl
      each L l p h (k ∷ ks) = ap₂ ◌∷◌ (ap (λ x. (k, x)) (a k (at k L) l (keyed L p k) (entry_stands L es h k))) (each L l p h ks)

  pub map_fed : (es : List (Value × Tree)) (told : Value → Bool) → ((k : Value) → IsFedChain c key_ts (found (blank c) es k) (told k)) →
      IsFedChain (MapOf c) ts (keyed_tree es) (some told (keys es))
  map_fed es told a = λ L l p h. ap (some told) (keys_stand L es h) ∙ each L l p h (keys_of L)
    where
      each : (L : List (List (Value × Option (Feed c)))) → IsLegal (MapOf c) ts → AreFeeds (MapOf c) ts L → StandsFor (MapOf c) ts L (keyed_tree es) → (ks : List Value) → some told ks ≡ some (λ k. fed c key_ts (at k L)) ks
      each L l p h [] = refl
      each L l p h (k ∷ ks) = ap₂ (λ b z. cond b true z) (a k (at k L) l (keyed L p k) (entry_stands L es h k)) (each L l p h ks)

  -- -Distinct: the rows so far, and a row that isn't among them behind
  pub distinct_takes : (r : List Value) (rs : List (List Value)) → TakesFeeds (Distinct c) ts (r ∷ []) (rows_tree rs) (rows_tree (firsts compare_rows (rs ++ filter no_null (r ∷ []))))
  distinct_takes r rs = λ L l k h.
      ap rows_tree (ap (λ z. firsts compare_rows (z ++ filter no_null (r ∷ []))) (rows_same _ _ h)
      ∙ again_joins (filter no_null L) (filter no_null (r ∷ []))
      ∙ sym (ap (firsts compare_rows) (filter-append no_null L (r ∷ []))))
    where
      again_joins : (A B : List (List Value)) → firsts compare_rows (firsts compare_rows A ++ B) ≡ firsts compare_rows (A ++ B)
      again_joins A B = steady_joins (before_others compare_rows) (firsts_steady compare_rows rows_order) (firsts compare_rows A) A B B (firsts_steady compare_rows rows_order [] A) refl

  pub distinct_joins : (rs us : List (List Value)) → Joins (Distinct c) ts (rows_tree rs) (rows_tree us) (rows_tree (firsts compare_rows (rs ++ us)))
  distinct_joins rs us = λ A B h k.
      ap rows_tree (ap₂ (λ x y. firsts compare_rows (x ++ y)) (rows_same _ _ h) (rows_same _ _ k)
      ∙ steady_joins (before_others compare_rows) (firsts_steady compare_rows rows_order) (firsts compare_rows (filter no_null A)) (filter no_null A) (firsts compare_rows (filter no_null B)) (filter no_null B)
      (firsts_steady compare_rows rows_order [] (filter no_null A)) (firsts_steady compare_rows rows_order [] (filter no_null B))
      ∙ sym (ap (firsts compare_rows) (filter-append no_null A B)))

  first_rows : (L : List (List Value)) (rs : List (List Value)) → AreFeeds (Distinct c) ts L → StandsFor (Distinct c) ts L (rows_tree rs) → Each (AreValues ts) rs
  first_rows L rs p h = subst (Each (AreValues ts)) (sym (rows_same _ _ h)) (each_firsts (AreValues ts) compare_rows (filter no_null L) (each_kept (AreValues ts) no_null L p))

  pub distinct_means : (rs : List (List Value)) (x : Value) → (IsLegal c ts → Each (AreValues ts) rs → x ≡ meaning c ts (map (opened c) rs)) → MeansChain (Distinct c) ts (rows_tree rs) x
  distinct_means rs x a = λ L l p h. a (l.0, l.1.1) (first_rows L rs p h) ∙ ap (λ z. meaning c ts (map (opened c) z)) (rows_same _ _ h)

  pub distinct_fed : (rs : List (List Value)) (b : Bool) → (IsLegal c ts → Each (AreValues ts) rs → b ≡ fed c ts (map (opened c) rs)) → IsFedChain (Distinct c) ts (rows_tree rs) b
  distinct_fed rs b a = λ L l p h. a (l.0, l.1.1) (first_rows L rs p h) ∙ ap (λ z. fed c ts (map (opened c) z)) (rows_same _ _ h)
