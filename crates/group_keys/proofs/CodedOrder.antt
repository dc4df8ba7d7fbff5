-- Tuples in the order of others that stand for them, which stand to one another as they do.
use Rattle.std.proofs.Common.{◌≡◌, ℕ, suc, ◌<◌, false, List, [], ◌∷◌, drop, length, map, get_or, refl, ap, ap₂, sym, ◌∙◌, arith, Ordering, Less, Equal, Greater}
use Rattle.std.specs.List.{All, AllByRecursion, IsDistinct}
use Rattle.std.specs.Ordering.{is_eq}
use Rattle.std.proofs.lemmas.List.{get_or-map}
use Rattle.agg_terms.specs.Lists.{Each}
use Rattle.agg_terms.specs.Order.{compare_rows, different, into_set, place_set}
use Rattle.agg_terms.specs.Values.{Value}
use Rattle.agg_terms.proofs.Comparing.{rows_order}
use Rattle.agg_terms.proofs.Sorting.{itself}
use Rattle.agg_meaning.proofs.Kept.{each_different}
use Rattle.table_words.specs.Tables.{same_tuple}
use Rattle.group_keys.proofs.Unpacked.{each-at}

module _ (Good : List Value → Type 0) (f : List Value → List Value) (agree : (x y : List Value) → Good x → Good y → compare_rows (f x) (f y) ≡ compare_rows x y) where
  into-coded : (x : List Value) (s : List (List Value)) → Good x → Each Good s → into_set compare_rows (f x) (map f s) ≡ map f (into_set compare_rows x s)
  into-coded x [] g h = refl
  into-coded x (y ∷ s) g h =
      ap₂ (λ o later. place_set o (f x) (f y) (map f s) later) (agree x y g h.0) (into-coded x s g h.1)
      ∙ by (compare_rows x y)
    where
      by : (o : Ordering) → place_set o (f x) (f y) (map f s) (map f (into_set compare_rows x s)) ≡ map f (place_set o x y s (into_set compare_rows x s))
      by Less = refl
      by Equal = refl
      by Greater = refl

  different-coded : (ks : List (List Value)) → Each Good ks → different compare_rows (map f ks) ≡ map f (different compare_rows ks)
  different-coded [] h = refl
  different-coded (k ∷ ks) h =
      ap (into_set compare_rows (f k)) (different-coded ks h.1)
      ∙ into-coded k (different compare_rows ks) h.0 (each_different Good compare_rows ks h.1)

  -- what stands for a tuple stands for no other
  once : (x y : List Value) → Good x → Good y → f x ≡ f y → x ≡ y
  once x y a b e = rows_order.same x y (sym (agree x y a b) ∙ ap (compare_rows (f x)) (sym e) ∙ itself compare_rows rows_order (f x))

  lists-once : (xs ys : List (List Value)) → Each Good xs → Each Good ys → map f xs ≡ map f ys → xs ≡ ys
  lists-once [] [] a b e = refl
  lists-once [] (y ∷ ys) a b e = absurd (omega (arith, ap length e))
  lists-once (x ∷ xs) [] a b e = absurd (omega (arith, ap length e))
  lists-once (x ∷ xs) (y ∷ ys) a b e =
      ap₂ ◌∷◌ (once x y a.0 b.0 (ap (λ l. get_or l 0 []) e)) (lists-once xs ys a.1 b.1 (ap (drop 1) e))

  pub distinct-coded : (ks : List (List Value)) → Each Good ks → IsDistinct same_tuple ks → IsDistinct same_tuple (map f ks)
  unfolding IsDistinct
  distinct-coded [] h d = tt
  distinct-coded (k ∷ ks) h d = (others ks h.1 d.0, distinct-coded ks h.1 d.1)
    where
      others : (xs : List (List Value)) → Each Good xs → AllByRecursion (λ y. same_tuple k y ≡ false) xs → AllByRecursion (λ y. same_tuple (f k) y ≡ false) (map f xs)
      others [] g a = tt
      others (x ∷ xs) g a = (ap is_eq (agree k x h.0 g.0) ∙ a.0, others xs g.1 a.1)

  module _ (ks : List (List Value)) (good : Each Good ks) where
    read-coded : (places : List ℕ) → All (λ p. p < length ks) places → map (λ p. get_or (map f ks) p []) places ≡ map f (map (λ p. get_or ks p []) places)
    read-coded [] h = refl
    read-coded (p ∷ places) h =
        ap₂ ◌∷◌ (get_or-map f ks p [] [] (h 0 p (omega arith))) (read-coded places (λ j d k. h (suc j) d (omega (arith, k))))

    read-good : (places : List ℕ) → All (λ p. p < length ks) places → Each Good (map (λ p. get_or ks p []) places)
    read-good [] h = tt
    read-good (p ∷ places) h =
        (each-at Good ks p [] (h 0 p (omega arith)) good, read-good places (λ j d k. h (suc j) d (omega (arith, k))))

    -- places that have what stands for the tuples in order have these
    pub decoded : (places : List ℕ) → All (λ p. p < length ks) places → map (λ p. get_or (map f ks) p []) places ≡ different compare_rows (map f ks) →
        map (λ p. get_or ks p []) places ≡ different compare_rows ks
    decoded places h e =
        lists-once (map (λ p. get_or ks p []) places) (different compare_rows ks) (read-good places h) (each_different Good compare_rows ks good)
        (sym (read-coded places h) ∙ e ∙ different-coded ks good)
