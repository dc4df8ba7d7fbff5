-- The places of keys that are put in order by a comparison which ranks them as their tuples.
use Rattle.std.proofs.Common.{◌≡◌, ℕ, suc, ◌<◌, Bool, false, List, [], ◌∷◌, length, map, get_or, refl, ap, ap₂, sym, subst, ◌∙◌, arith}
use Rattle.std.specs.List.{All, AllByRecursion, IsDistinct}
use Rattle.std.specs.List.Sorted.{IsPermutation, IsSorted}
use Rattle.std.specs.Ordering.{is_eq}
use Rattle.std.specs.declared.cmp.Ordering.{Ordering}
use Rattle.std.proofs.lemmas.List.{get_or-map, length-map}
use Rattle.std.proofs.lemmas.List.Sorted.{All-permutation, list_any-IsPermutation}
use Rattle.std.proofs.lemmas.Map.Keys.{IsDistinct-IsPermutation}
use Rattle.agg_terms.specs.Order.{compare_rows, different}
use Rattle.agg_terms.specs.Values.{Value}
use Rattle.set_leaves.proofs.Keys.{keys_sorted}
use Rattle.table_words.specs.Tables.{same_tuple}
use Rattle.table_words.proofs.Fed.{tuples}
use Rattle.group_keys.specs.proving.Placed.{ArePut}

-- a list is another of its length with the same at each place
list-is : {X : Type 0} (d : X) (xs ys : List X) → length xs ≡ length ys → ((i : ℕ) → i < length ys → get_or xs i d ≡ get_or ys i d) → xs ≡ ys
list-is d [] [] l h = refl
list-is d [] (y ∷ ys) l h = absurd (omega (arith, l))
list-is d (x ∷ xs) [] l h = absurd (omega (arith, l))
list-is d (x ∷ xs) (y ∷ ys) l h = ap₂ ◌∷◌ (h 0 (omega arith)) (list-is d xs ys (omega (arith, l)) (λ i k. h (suc i) (omega (arith, k))))

module _ {E : Type 0} (cmp : E → E → Ordering) (place : E → ℕ) (tuple : E → List Value) (ranks : (a b : E) → cmp a b ≡ compare_rows (tuple a) (tuple b)) where
  abbrev same_key : E → E → Bool
  same_key a b = is_eq (cmp a b)

  same-key-is : (a b : E) → same_key a b ≡ same_tuple (tuple a) (tuple b)
  same-key-is a b = ap is_eq (ranks a b)

  same-key-back : (a b : E) → same_key a b ≡ same_key b a
  same-key-back a b = same-key-is a b ∙ tuples.symm (tuple a) (tuple b) ∙ sym (same-key-is b a)

  distinct-keys-of : (es : List E) → IsDistinct same_tuple (map tuple es) → IsDistinct same_key es
  unfolding IsDistinct
  distinct-keys-of [] h = tt
  distinct-keys-of (e ∷ es) h = (others es h.0, distinct-keys-of es h.1)
    where
      others : (xs : List E) → AllByRecursion (λ y. same_tuple (tuple e) y ≡ false) (map tuple xs) → AllByRecursion (λ y. same_key e y ≡ false) xs
      others [] k = tt
      others (x ∷ xs) k = (same-key-is e x ∙ k.0, others xs k.1)

  -- different keys put in order are the set of their tuples
  ordered-keys : (made put : List E) → IsPermutation made put → IsSorted cmp put → IsDistinct same_tuple (map tuple made) → map tuple put ≡ different compare_rows (map tuple made)
  ordered-keys made put moved sorted apart =
      keys_sorted tuple cmp same_key ranks (λ a b. refl) made put sorted
      (IsDistinct-IsPermutation same_key same-key-back made put moved (distinct-keys-of made apart))
      (λ q. sym (list_any-IsPermutation (same_key q) made put moved))

  -- a key with its place among these tuples
  pub record IsAt (ks : List (List Value)) (i : ℕ) (e : E) : Type 0 where
    pub place_is : place e ≡ i
    pub tuple_is : tuple e ≡ get_or ks i []

  -- the keys of these tuples, by their places
  pub record AreAll (ks : List (List Value)) (es : List E) : Type 0 where
    pub many : length es ≡ length ks
    pub each : (i : ℕ) (d : E) → i < length ks → IsAt ks i (get_or es i d)

  module _ (ks : List (List Value)) where
    abbrev IsThere : E → Type 0
    IsThere e = (place e < length ks) × (tuple e ≡ get_or ks (place e) [])

    all-there : (made : List E) → AreAll ks made → All IsThere made
    all-there made all i d h =
        let there : i < length ks = subst (λ n. i < n) all.many h in
        let at = all.each i d there in
        (subst (λ n. n < length ks) (sym at.place_is) there, at.tuple_is ∙ ap (λ n. get_or ks n []) (sym at.place_is))

    tuples-are : (made : List E) → AreAll ks made → map tuple made ≡ ks
    tuples-are made all =
        list-is [] (map tuple made) ks (length-map made tuple ∙ all.many)
        (λ i h. by made i h (subst (λ n. i < n) (sym all.many) h) (λ d. (all.each i d h).tuple_is))
      where
        by : (es : List E) (i : ℕ) → i < length ks → i < length es → ((d : E) → tuple (get_or es i d) ≡ get_or ks i []) → get_or (map tuple es) i [] ≡ get_or ks i []
        by [] i h l k = absurd (omega (arith, l))
        by (e ∷ es) i h l k = get_or-map tuple (e ∷ es) i e [] l ∙ k e

    read-there : (es : List E) → All IsThere es → map (λ p. get_or ks p []) (map place es) ≡ map tuple es
    read-there [] h = refl
    read-there (e ∷ es) h = ap₂ ◌∷◌ (sym (h 0 e (omega arith)).1) (read-there es (λ j d k. h (suc j) d (omega (arith, k))))

    places-within : (es : List E) → All IsThere es → All (λ p. p < length ks) (map place es)
    places-within es h i d l =
        let here : i < length es = subst (λ n. i < n) (length-map es place) l in by es i here h d l
      where
        by : (es : List E) (i : ℕ) → i < length es → All IsThere es → (d : ℕ) → i < length (map place es) → get_or (map place es) i d < length ks
        by [] i here h d l = absurd (omega (arith, here))
        by (e ∷ es) i here h d l = subst (λ p. p < length ks) (sym (get_or-map place (e ∷ es) i e d here)) (h i e here).0

  -- the places of keys that were put in order are those of the tuples in order
  module _ {AreKeys : List E → Type 0} {places : List ℕ} (p : ArePut cmp place AreKeys places) (ks : List (List Value)) (all : AreAll ks p.made) where
    put-there : All (IsThere ks) p.put
    put-there = All-permutation (IsThere ks) p.made p.put p.same (all-there ks p.made all)

    pub ascend : IsDistinct same_tuple ks → map (λ i. get_or ks i []) places ≡ different compare_rows ks
    ascend apart =
        ap (map (λ i. get_or ks i [])) p.places_are
        ∙ read-there ks p.put put-there
        ∙ ordered-keys p.made p.put p.same p.ascending (subst (IsDistinct same_tuple) (sym (tuples-are ks p.made all)) apart)
        ∙ ap (different compare_rows) (tuples-are ks p.made all)

    pub within : All (λ i. i < length ks) places
    within = subst (All (λ i. i < length ks)) (sym p.places_are) (places-within ks p.put put-there)
