-- The keys of a table: what one more key does, and that keys stay at their places.
use Rattle.std.proofs.Common.{◌≡◌, ℕ, ◌+◌, ◌<◌, ◌≤◌, Bool, true, false, List, [], ◌∷◌, ◌++◌, ◌||◌, length, cond, refl, ap, sym, ◌∙◌, get_or, arith, nat_eq, true≢false, ◌⊎◌, inl, inr, not}
use Rattle.std.specs.List.{position_or_len, list_any, IsDistinct}
use Rattle.std.specs.Cmp.{IsEquivalence}
use Rattle.std.proofs.lemmas.Bool.{cond_both, cond-true, eqb-true, eqb-false, false_from_ne_true, cases_order, or_left, or_parts}
use Rattle.std.proofs.lemmas.List.{length-append, get_or_append_left}
use Rattle.std.proofs.lemmas.List.Folds.{list_any-append, list_any_at}
use Rattle.std.proofs.lemmas.List.Sums.{passes_at_first}
use Rattle.std.proofs.lemmas.Map.Keys.{IsDistinct-push, apart_from_distinct}
use Rattle.indexmap.specs.IndexSet.{insert_key}
use Rattle.table_words.specs.KeyLists.{keys_with}

module _ {X : Type 0} (p : X → Bool) where
  step : (x : X) (xs : List X) (b : Bool) → p x ≡ b → position_or_len p (x ∷ xs) ≡ cond (not b) (1 + position_or_len p xs) 0
  step x xs b e = ap (λ c. cond (not c) (1 + position_or_len p xs) 0) e

  -- a test that some element passes passes first within the list
  pub first_within : (xs : List X) → list_any p xs ≡ true → position_or_len p xs < length xs
  first_within [] h = absurd (true≢false (sym h))
  first_within (x ∷ xs) h = by (p x) refl (first_within xs)
    where
      by : (b : Bool) → p x ≡ b → (list_any p xs ≡ true → position_or_len p xs < length xs) → position_or_len p (x ∷ xs) < length (x ∷ xs)
      by true e _ = let f : position_or_len p (x ∷ xs) ≡ 0 = step x xs true e in omega arith
      by false e rest =
          let f : position_or_len p (x ∷ xs) ≡ 1 + position_or_len p xs = step x xs false e in
          let r = rest (sym (ap (λ b. b || list_any p xs) e) ∙ h) in
          omega arith

  -- and one that none passes stops at its end
  pub first_none : (xs : List X) → list_any p xs ≡ false → position_or_len p xs ≡ length xs
  first_none [] h = refl
  first_none (x ∷ xs) h =
      let a = or_parts (p x) (list_any p xs) h in
      let f = step x xs false a.0 in
      let r = first_none xs a.1 in
      omega arith

module _ {K : Type 0} (eq : K → K → Bool) where
  pub length-insert_key : (ks : List K) (k : K) → length ks ≤ length (insert_key eq ks k)
  length-insert_key ks k = cond_both (list_any (eq k) ks) ks (ks ++ k ∷ []) (λ l. length ks ≤ length l) (λ _. omega arith) (λ _. let e = length-append ks (k ∷ []) in omega arith)

  -- a key stays at its place
  pub get_or-insert_key : (ks : List K) (k : K) (i : ℕ) (d : K) → i < length ks → get_or (insert_key eq ks k) i d ≡ get_or ks i d
  get_or-insert_key ks k i d h = cond_both (list_any (eq k) ks) ks (ks ++ k ∷ []) (λ l. get_or l i d ≡ get_or ks i d) (λ _. refl) (λ _. get_or_append_left ks (k ∷ []) d i h)

  pub length-keys_with : (ks more : List K) → length ks ≤ length (keys_with eq ks more)
  length-keys_with ks [] = omega arith
  length-keys_with ks (k ∷ more) = let a = length-insert_key ks k in let b = length-keys_with (insert_key eq ks k) more in omega arith

  pub get_or-keys_with : (ks more : List K) (i : ℕ) (d : K) → i < length ks → get_or (keys_with eq ks more) i d ≡ get_or ks i d
  get_or-keys_with ks [] i d h = refl
  get_or-keys_with ks (k ∷ more) i d h =
      let a = length-insert_key ks k in
      get_or-keys_with (insert_key eq ks k) more i d (omega arith) ∙ get_or-insert_key ks k i d h

  -- keys joined by keys
  pub keys_with-append : (ks a b : List K) → keys_with eq ks (a ++ b) ≡ keys_with eq (keys_with eq ks a) b
  keys_with-append ks [] b = refl
  keys_with-append ks (k ∷ a) b = keys_with-append (insert_key eq ks k) a b

  module _ (laws : IsEquivalence eq) where
    pub IsDistinct-insert_key : (ks : List K) (k : K) → IsDistinct eq ks → IsDistinct eq (insert_key eq ks k)
    IsDistinct-insert_key ks k h = cond_both (list_any (eq k) ks) ks (ks ++ k ∷ []) (IsDistinct eq) (λ _. h) (λ none. IsDistinct-push laws ks k h none)

    pub IsDistinct-keys_with : (ks more : List K) → IsDistinct eq ks → IsDistinct eq (keys_with eq ks more)
    IsDistinct-keys_with ks [] h = h
    IsDistinct-keys_with ks (k ∷ more) h = IsDistinct-keys_with (insert_key eq ks k) more (IsDistinct-insert_key ks k h)

    -- the place that a key has is within the keys with it, and has a key that is equal to it
    pub place_within : (ks : List K) (k : K) → position_or_len (eq k) ks < length (insert_key eq ks k)
    place_within ks k =
        cond_both (list_any (eq k) ks) ks (ks ++ k ∷ []) (λ l. position_or_len (eq k) ks < length l)
        (λ there. first_within (eq k) ks there)
        (λ none. let e = first_none (eq k) ks none in let f = length-append ks (k ∷ []) in omega arith)

    pub place_holds : (ks : List K) (k d : K) → eq k (get_or (insert_key eq ks k) (position_or_len (eq k) ks) d) ≡ true
    place_holds ks k d =
        cond_both (list_any (eq k) ks) ks (ks ++ k ∷ []) (λ l. eq k (get_or l (position_or_len (eq k) ks) d) ≡ true)
        (λ there. passes_at_first (eq k) ks d (first_within (eq k) ks there))
        (λ none. ap (λ n. eq k (get_or (ks ++ k ∷ []) n d)) (first_none (eq k) ks none) ∙ ap (eq k) (last ks) ∙ laws.refl k)
      where
        last : (l : List K) → get_or (l ++ k ∷ []) (length l) d ≡ k
        last [] = refl
        last (x ∷ l) = last l

    -- two places of distinct keys
    pub same_place : (ks : List K) (i j : ℕ) (d : K) → IsDistinct eq ks → i < length ks → j < length ks → eq (get_or ks i d) (get_or ks j d) ≡ true → i ≡ j
    same_place ks i j d h hi hj e = by (cases_order i j)
      where
        by : (i ≡ j) ⊎ ((i < j) ⊎ (j < i)) → i ≡ j
        by (inl same) = same
        by (inr (inl l)) = absurd (true≢false (sym e ∙ apart_from_distinct eq ks i j d h l hj))
        by (inr (inr l)) = absurd (true≢false (sym e ∙ laws.symm (get_or ks i d) (get_or ks j d) ∙ apart_from_distinct eq ks j i d h l hi))

    -- a row's place is g where its key is equal to the key at g
    pub place_tells : (ks more : List K) (k : K) (g : ℕ) (d : K) → IsDistinct eq ks → g < length (keys_with eq ks (k ∷ more))
        → nat_eq (position_or_len (eq k) ks) g ≡ eq (get_or (keys_with eq ks (k ∷ more)) g d) k
    place_tells ks more k g d h hg = by (nat_eq p g) refl
      where
        p : ℕ
        p = position_or_len (eq k) ks

        all : List K
        all = keys_with eq ks (k ∷ more)

        held : eq (get_or (keys_with eq ks (k ∷ more)) (position_or_len (eq k) ks) d) k ≡ true
        held =
            ap (λ x. eq x k) (get_or-keys_with (insert_key eq ks k) more (position_or_len (eq k) ks) d (place_within ks k))
            ∙ laws.symm _ k ∙ place_holds ks k d

        within : position_or_len (eq k) ks < length (keys_with eq ks (k ∷ more))
        within = let a = place_within ks k in let b = length-keys_with (insert_key eq ks k) more in omega arith

        by : (b : Bool) → nat_eq (position_or_len (eq k) ks) g ≡ b → nat_eq (position_or_len (eq k) ks) g ≡ eq (get_or (keys_with eq ks (k ∷ more)) g d) k
        by true e = e ∙ sym (ap (λ n. eq (get_or (keys_with eq ks (k ∷ more)) n d) k) (sym (eqb-true _ g e)) ∙ held)
        by false e = e ∙ sym (false_from_ne_true _ (λ t.
            eqb-false _ g e (same_place (keys_with eq ks (k ∷ more)) (position_or_len (eq k) ks) g d (IsDistinct-keys_with ks (k ∷ more) h) within hg
            (laws.congr _ k _ held ∙ laws.symm k _ ∙ t))))

    -- the keys of a list, inserted, are the list inserted
    pub insert_key-present : (ks : List K) (k : K) → list_any (eq k) ks ≡ true → insert_key eq ks k ≡ ks
    insert_key-present ks k h = cond-true (list_any (eq k) ks) ks (ks ++ k ∷ []) h

    pub list_any-insert_key : (ks : List K) (k x : K) → list_any (eq x) ks ≡ true → list_any (eq x) (insert_key eq ks k) ≡ true
    list_any-insert_key ks k x h =
        cond_both (list_any (eq k) ks) ks (ks ++ k ∷ []) (λ l. list_any (eq x) l ≡ true) (λ _. h)
        (λ _. list_any-append (eq x) ks (k ∷ []) ∙ or_left _ _ h)

    -- an inserted key is there
    pub list_any-inserted : (ks : List K) (k x : K) → eq x k ≡ true → list_any (eq x) (insert_key eq ks k) ≡ true
    list_any-inserted ks k x e =
        let at = place_holds ks k k in
        list_any_at (eq x) (insert_key eq ks k) (position_or_len (eq k) ks) k (place_within ks k) (laws.congr x k _ e ∙ at)

    pub list_any-keys_with : (ks more : List K) (x : K) → list_any (eq x) ks ≡ true → list_any (eq x) (keys_with eq ks more) ≡ true
    list_any-keys_with ks [] x h = h
    list_any-keys_with ks (k ∷ more) x h = list_any-keys_with (insert_key eq ks k) more x (list_any-insert_key ks k x h)
