-- That a table which a later one was merged into is the table of both.
use Rattle.std.proofs.Common.{◌≡◌, ℕ, ◌<◌, Bool, true, false, cond, List, [], ◌∷◌, ◌++◌, ◌||◌, length, map, get_or, refl, sym, ap, subst, ◌∙◌, append_assoc, nat_eq, true≢false}
use Rattle.std.specs.Cmp.{IsEquivalence, Equal-is}
use Rattle.std.specs.List.{AllByRecursion, IsDistinct, list_any}
use Rattle.std.specs.Prelude.{flat_map}
use Rattle.std.proofs.lemmas.Bool.{cond_both, or_parts}
use Rattle.std.proofs.lemmas.List.{append-nil, get_or-map, get_or_default, length-map, map-append, same_lists}
use Rattle.std.proofs.lemmas.Map.Keys.{IsDistinct-head, IsDistinct-tail}
use Rattle.indexmap.specs.IndexSet.{insert_key}
use Rattle.agg_terms.specs.Chains.{Chain, Ty}
use Rattle.agg_terms.specs.Lists.{is_empty}
use Rattle.agg_terms.specs.Order.{compare_rows}
use Rattle.agg_terms.specs.Values.{Empty, Tree, Value}
use Rattle.agg_terms.proofs.Comparing.{rows_order}
use Rattle.agg_meaning.specs.Feeds.{Feed}
use Rattle.agg_meaning.specs.States.{StandsFor}
use Rattle.agg_meaning.specs.Suffixes.{normal}
use Rattle.agg_meaning.specs.Views.{Contribution, View, call_at, feeds_of, first_groups}
use Rattle.table_words.specs.KeyLists.{keys_with, places_of, reaching}
use Rattle.table_words.specs.Laws.{JoinsAll, TablesAreMerged, TakesTrees}
use Rattle.table_words.specs.Tables.{IsTable, keys_in, same_tuple, tree_at}
use Rattle.table_words.proofs.Fed.{distinct, distinct-keys, feeds-absent, feeds-append, keys_of, stood, tuples}
use Rattle.table_words.proofs.KeysWith.{IsDistinct-insert_key, insert_key-present, keys_with-append, list_any-inserted, list_any-keys_with, place_tells}

-- ---- keys of keys
module _ {K : Type 0} (eq : K → K → Bool) (laws : IsEquivalence eq) where
  present : (x : K) (l s : List K) → list_any (eq x) s ≡ true → list_any (eq x) (keys_with eq l s) ≡ true
  present x l [] h = absurd (true≢false (sym h))
  present x l (y ∷ s) h = by (eq x y) refl (present x (insert_key eq l y) s)
    where
      by : (b : Bool) → eq x y ≡ b → (list_any (eq x) s ≡ true → list_any (eq x) (keys_with eq (insert_key eq l y) s) ≡ true) → list_any (eq x) (keys_with eq (insert_key eq l y) s) ≡ true
      by true e rest = list_any-keys_with eq laws (insert_key eq l y) s x (list_any-inserted eq laws l y x e)
      by false e rest = rest (sym (ap (λ b. b || list_any (eq x) s) e) ∙ h)

  -- the keys of a part's keys are those of the part
  pub keys_with-keys_with : (ks seen more : List K) → keys_with eq ks (keys_with eq seen more) ≡ keys_with eq (keys_with eq ks seen) more
  keys_with-keys_with ks seen [] = refl
  keys_with-keys_with ks seen (x ∷ more) =
      keys_with-keys_with ks (insert_key eq seen x) more
      ∙ ap (λ l. keys_with eq l more)
      (cond_both (list_any (eq x) seen) seen (seen ++ x ∷ []) (λ l. keys_with eq ks l ≡ insert_key eq (keys_with eq ks seen) x)
      (λ there. sym (insert_key-present eq laws (keys_with eq ks seen) x (present x ks seen there)))
      (λ _. keys_with-append eq ks seen (x ∷ [])))

-- the group of the empty tuple is among all keys of a view that begins with it
first-kept : (v : View) (more : List (List Value)) → keys_with same_tuple (keys_with same_tuple (first_groups v) more) (first_groups v) ≡ keys_with same_tuple (first_groups v) more
first-kept v more = by (is_empty v.keys)
  where
    by : (b : Bool) → keys_with same_tuple (keys_with same_tuple (cond b ([] ∷ []) []) more) (cond b ([] ∷ []) []) ≡ keys_with same_tuple (cond b ([] ∷ []) []) more
    by true = insert_key-present same_tuple tuples (keys_with same_tuple ([] ∷ []) more) [] (list_any-keys_with same_tuple tuples ([] ∷ []) more [] (ap (λ b. b || false) (tuples.refl [])))
    by false = refl

pub merged_keys : (v : View) (C D : List (Contribution v)) → keys_with same_tuple (keys_in v C) (keys_in v D) ≡ keys_in v (C ++ D)
merged_keys v C D =
    keys_with-keys_with same_tuple tuples (keys_in v C) (first_groups v) (keys_of v D)
    ∙ ap (λ l. keys_with same_tuple l (keys_of v D)) (first-kept v (keys_of v C))
    ∙ sym (keys_with-append same_tuple (first_groups v) (keys_of v C) (keys_of v D))
    ∙ ap (keys_with same_tuple (first_groups v)) (sym (map-append (λ c. c.0) C D))

-- ---- what reaches a place
reaching-map : {X Y : Type 0} (f : X → Y) (g : ℕ) (ps : List ℕ) (xs : List X) → reaching g ps (map f xs) ≡ map f (reaching g ps xs)
reaching-map f g [] xs = refl
reaching-map f g (p ∷ ps) [] = refl
reaching-map f g (p ∷ ps) (x ∷ xs) = by (nat_eq p g) (reaching-map f g ps xs)
  where
    by : (b : Bool) → reaching g ps (map f xs) ≡ map f (reaching g ps xs) → cond b (f x ∷ reaching g ps (map f xs)) (reaching g ps (map f xs)) ≡ map f (cond b (x ∷ reaching g ps xs) (reaching g ps xs))
    by true e = ap (λ l. f x ∷ l) e
    by false e = e

abbrev flat : {X : Type 0} → List (List X) → List X
flat xss = flat_map (λ xs. xs) xss

module _ {F : Type 0} (h : List Value → List F) where
  -- what keys bring whose place is g is what the keys bring that are equal to the key there
  flat-reaching : (ks ls : List (List Value)) (g : ℕ) → IsDistinct same_tuple ks → g < length (keys_with same_tuple ks ls)
      → flat (reaching g (places_of same_tuple ks ls) (map h ls)) ≡ flat_map (λ l. cond (same_tuple (get_or (keys_with same_tuple ks ls) g []) l) (h l) []) ls
  flat-reaching ks [] g d lt = refl
  flat-reaching ks (k ∷ ls) g d lt =
      let rest = reaching g (places_of same_tuple (insert_key same_tuple ks k) ls) (map h ls) in
      ap (λ b. flat (cond b (h k ∷ rest) rest)) (place_tells same_tuple tuples ks ls k g [] d lt)
      ∙ by rest (same_tuple (get_or (keys_with same_tuple ks (k ∷ ls)) g []) k)
      (flat_map (λ l. cond (same_tuple (get_or (keys_with same_tuple ks (k ∷ ls)) g []) l) (h l) []) ls)
      (flat-reaching (insert_key same_tuple ks k) ls g (IsDistinct-insert_key same_tuple tuples ks k d) lt)
    where
      by : (rest : List (List F)) (b : Bool) (fs : List F) → flat rest ≡ fs → flat (cond b (h k ∷ rest) rest) ≡ cond b (h k) [] ++ fs
      by rest true fs e = ap (λ l. h k ++ l) e
      by rest false fs e = e

  same-is : (a b : List Value) → same_tuple a b ≡ true → a ≡ b
  same-is a b e = rows_order.same a b ((Equal-is (compare_rows a b)).0 e)

  brought-none : (k : List Value) (ls : List (List Value)) → list_any (same_tuple k) ls ≡ false → flat_map (λ l. cond (same_tuple k l) (h l) []) ls ≡ []
  brought-none k [] n = refl
  brought-none k (l ∷ ls) n =
      let parts = or_parts (same_tuple k l) (list_any (same_tuple k) ls) n in
      ap (λ b. cond b (h l) [] ++ flat_map (λ l. cond (same_tuple k l) (h l) []) ls) parts.0 ∙ brought-none k ls parts.1

  brought-apart : (k x : List Value) (ls : List (List Value)) → k ≡ x → AllByRecursion (λ y. same_tuple x y ≡ false) ls → flat_map (λ l. cond (same_tuple k l) (h l) []) ls ≡ []
  brought-apart k x [] e n = refl
  brought-apart k x (l ∷ ls) e n =
      ap (λ b. cond b (h l) [] ++ flat_map (λ l. cond (same_tuple k l) (h l) []) ls) (ap (λ z. same_tuple z l) e ∙ n.0) ∙ brought-apart k x ls e n.1

  -- of different keys one at most is equal to a key
  brought-once : (k : List Value) (ls : List (List Value)) → IsDistinct same_tuple ls → list_any (same_tuple k) ls ≡ true → flat_map (λ l. cond (same_tuple k l) (h l) []) ls ≡ h k
  brought-once k [] d n = absurd (true≢false (sym n))
  brought-once k (l ∷ ls) d n = by (same_tuple k l) refl (brought-once k ls (IsDistinct-tail same_tuple l ls d))
    where
      by : (b : Bool) → same_tuple k l ≡ b → (list_any (same_tuple k) ls ≡ true → flat_map (λ l. cond (same_tuple k l) (h l) []) ls ≡ h k) → cond (same_tuple k l) (h l) [] ++ flat_map (λ l. cond (same_tuple k l) (h l) []) ls ≡ h k
      by true e _ =
          ap (λ b. cond b (h l) [] ++ flat_map (λ l. cond (same_tuple k l) (h l) []) ls) e
          ∙ ap (λ fs. h l ++ fs) (brought-apart k l ls (same-is k l e) (IsDistinct-head same_tuple l ls d))
          ∙ append-nil (h l) ∙ ap h (sym (same-is k l e))
      by false e later =
          ap (λ b. cond b (h l) [] ++ flat_map (λ l. cond (same_tuple k l) (h l) []) ls) e
          ∙ later (sym (ap (λ b. b || list_any (same_tuple k) ls) e) ∙ n)

-- ---- trees joined one after another
joins-stand : (c : Chain) (ts : List Ty) (hs : List (List (Feed c))) (A : List (Feed c)) (t w : Tree) → StandsFor c ts A t → JoinsAll c ts (map (normal c ts) hs) t w → StandsFor c ts (A ++ flat hs) w
joins-stand c ts [] A t w s j = subst (λ L. StandsFor c ts L w) (sym (append-nil A)) (subst (StandsFor c ts A) j s)
joins-stand c ts (h ∷ hs) A t w s j = subst (λ L. StandsFor c ts L w) (append_assoc A h (flat hs)) (joins-stand c ts hs (A ++ h) j.0 w (j.1 A h s refl) j.2)

-- ---- the table
module _ (v : View) (C D : List (Contribution v)) (ks ls : List (List Value)) (old later new : ℕ → List Tree)
    (first : IsTable v C ks old) (second : IsTable v D ls later) where
  distinct-later : IsDistinct same_tuple ls
  distinct-later = subst (IsDistinct same_tuple) (sym second.keys) (distinct-keys v D)

  -- what later keys bring to a key is what their contributions bring
  brought : (i : ℕ) (k : List Value) → flat_map (λ l. cond (same_tuple k l) (feeds_of v l i D) []) ls ≡ feeds_of v k i D
  brought i k = by (list_any (same_tuple k) ls) refl
    where
      by : (b : Bool) → list_any (same_tuple k) ls ≡ b → flat_map (λ l. cond (same_tuple k l) (feeds_of v l i D) []) ls ≡ feeds_of v k i D
      by true e = brought-once (λ l. feeds_of v l i D) k ls distinct-later e
      by false e =
          brought-none (λ l. feeds_of v l i D) k ls e
          ∙ sym (feeds-absent v i k (first_groups v) D (ap (list_any (same_tuple k)) (sym second.keys) ∙ e))

  -- the later trees are the states of what their keys' contributions bring
  trees-are : (i : ℕ) → i < length v.calls → later i ≡ map (normal (call_at v.calls i).chain (call_at v.calls i).types) (map (λ l. feeds_of v l i D) ls)
  trees-are i hi =
      same_lists (later i) (map (normal (call_at v.calls i).chain (call_at v.calls i).types) (map (λ l. feeds_of v l i D) ls))
      (second.long i hi ∙ sym (length-map (map (λ l. feeds_of v l i D) ls) (normal (call_at v.calls i).chain (call_at v.calls i).types) ∙ length-map ls (λ l. feeds_of v l i D)))
      (λ g d h.
      let here : g < length ls = subst (λ n. g < n) (second.long i hi) h in
      let within : g < length (map (λ l. feeds_of v l i D) ls) = subst (λ n. g < n) (sym (length-map ls (λ l. feeds_of v l i D))) here in
      get_or_default (later i) g d Empty h
      ∙ second.trees i hi g here
      ∙ sym
      (get_or-map (normal (call_at v.calls i).chain (call_at v.calls i).types) (map (λ l. feeds_of v l i D) ls) g [] d within
      ∙ ap (normal (call_at v.calls i).chain (call_at v.calls i).types) (get_or-map (λ l. feeds_of v l i D) ls g [] [] here)))

  merged : TakesTrees v later (places_of same_tuple ks ls) (length (keys_with same_tuple ks ls)) old new → IsTable v (C ++ D) (keys_with same_tuple ks ls) new
  merged takes = record {
    keys = ap (λ l. keys_with same_tuple l ls) first.keys ∙ ap (keys_with same_tuple (keys_in v C)) second.keys ∙ merged_keys v C D;
    long = takes.long;
    trees = λ i hi g h.
        let k = get_or (keys_with same_tuple ks ls) g [] in
        let c = (call_at v.calls i).chain in
        let ts = (call_at v.calls i).types in
        let ps = places_of same_tuple ks ls in
        let hs = reaching g ps (map (λ l. feeds_of v l i D) ls) in
        let joins = subst (λ us. JoinsAll c ts us (tree_at v i (old i) g) (get_or (new i) g Empty)) (ap (reaching g ps) (trees-are i hi) ∙ reaching-map (normal c ts) g ps (map (λ l. feeds_of v l i D) ls)) (takes.trees i hi g h) in
        joins-stand c ts hs (feeds_of v k i C) (tree_at v i (old i) g) (get_or (new i) g Empty) (stood v C ks ls old first i hi g h) joins
        ∙ ap (λ fs. normal c ts (feeds_of v k i C ++ fs)) (flat-reaching (λ l. feeds_of v l i D) ks ls g (distinct v C ks ls old first) h ∙ brought i k)
        ∙ ap (normal c ts) (sym (feeds-append v k i C D));
  }

pub tables_are_merged : TablesAreMerged
tables_are_merged v C D ks ls old later new first second takes = merged v C D ks ls old later new first second takes
