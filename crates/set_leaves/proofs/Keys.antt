-- Sets of keys, and the sets of the tuples that they are kept of.
use Rattle.std.proofs.Common.{◌≡◌, ◌≢◌, ℕ, suc, ◌+◌, ◌<◌, ◌≤◌, inl, inr, Bool, true, false, ◌||◌, if◌then◌else◌, List, [], ◌∷◌, ◌++◌, length, map, take, get_or, refl, sym, ap, ◌∙◌, subst, arith, true≢false, append_assoc, Ordering, Less, Equal, Greater}
use Rattle.std.specs.Cmp.{Equal-is}
use Rattle.std.specs.Cmp.Lexicographic.{bytes_decides, pointwise}
use Rattle.std.specs.Prelude.{nat_eq}
use Rattle.std.specs.List.{AllByRecursion, IsDistinct, list_any}
use Rattle.std.specs.List.Sorted.{IsSorted}
use Rattle.std.specs.Ordering.{is_eq, is_lt, ordering_reverse}
use Rattle.std.proofs.lemmas.List.{length-map, length-take, map-append, take_more, take-take}
use Rattle.indexmap.specs.IndexSet.{insert_key}
use Rattle.agg_terms.specs.Lists.{Among, Apart, Each, Rising}
use Rattle.agg_terms.specs.Order.{compare_rows, different}
use Rattle.agg_terms.specs.Values.{Value}
use Rattle.agg_terms.proofs.Comparing.{rows_order}
use Rattle.agg_terms.proofs.Sorting.{itself}
use Rattle.agg_meaning.proofs.LeafTrees.{different_rising}
use Rattle.set_leaves.specs.proving.Orders.{rows_full}
use Rattle.set_leaves.specs.Tuples.{SameSet, text_tuple}
use Rattle.set_leaves.proofs.SetLaws.{length-different, set_last, set_same, set_there, sets_join}

module _ {K : Type 0} (tuple : K → List Value) (cmp : K → K → Ordering) (eq : K → K → Bool)
    (ranks : (a b : K) → cmp a b ≡ compare_rows (tuple a) (tuple b)) (ties : (a b : K) → eq a b ≡ is_eq (cmp a b)) where
  -- equal keys are those of the same tuple
  same : (a b : K) → eq a b ≡ true → tuple a ≡ tuple b
  same a b e =
      rows_order.same (tuple a) (tuple b) ((Equal-is (compare_rows (tuple a) (tuple b))).0 (ap is_eq (sym (ranks a b)) ∙ sym (ties a b) ∙ e))

  equal : (a b : K) → tuple a ≡ tuple b → eq a b ≡ true
  equal a b e =
      ties a b ∙ ap is_eq (ranks a b ∙ ap (compare_rows (tuple a)) (sym e) ∙ itself compare_rows rows_order (tuple a))

  among_any : (k : K) (ks : List K) → list_any (eq k) ks ≡ true → Among (tuple k) (map tuple ks)
  among_any k [] h = absurd (true≢false (sym h))
  among_any k (x ∷ xs) h = go (eq k x) refl h (among_any k xs)
    where
      go : (b : Bool) → eq k x ≡ b → (b || list_any (eq k) xs) ≡ true → (list_any (eq k) xs ≡ true → Among (tuple k) (map tuple xs)) → Among (tuple k) (map tuple (x ∷ xs))
      go true e h rest = inl (same k x e)
      go false e h rest = inr (rest h)

  or_true : (b : Bool) → (b || true) ≡ true
  or_true true = refl
  or_true false = refl

  -- a tuple among those of some keys is that of a key
  found : (x : List Value) (ks : List K) → Among x (map tuple ks) → (k : K) × (x ≡ tuple k) × (list_any (eq k) ks ≡ true)
  found x [] h = absurd h
  found x (y ∷ ys) (inl e) = (y, e, ap (λ b. b || list_any (eq y) ys) (equal y y refl))
  found x (y ∷ ys) (inr h) =
      let r = found x ys h in (r.0, r.1, ap (λ b. eq r.0 y || b) r.2 ∙ or_true (eq r.0 y))

  pub key_there : (ks : List K) (k : K) → list_any (eq k) ks ≡ true → SameSet (map tuple ks) (map tuple ks ++ tuple k ∷ [])
  key_there ks k h =
      sym (set_last compare_rows rows_full (tuple k) (map tuple ks) ∙ set_there compare_rows rows_full (tuple k) (map tuple ks) (among_any k ks h))

  pub key_inserted : (ks : List K) (k : K) → SameSet (map tuple (insert_key eq ks k)) (map tuple ks ++ tuple k ∷ [])
  key_inserted ks k = go (list_any (eq k) ks) refl
    where
      go : (b : Bool) → list_any (eq k) ks ≡ b → SameSet (map tuple (if b then ks else ks ++ k ∷ [])) (map tuple ks ++ tuple k ∷ [])
      go true e = key_there ks k e
      go false e = ap (different compare_rows) (map-append tuple ks (k ∷ []))

  each_apart : (k : K) (ks : List K) → AllByRecursion (λ y. eq k y ≡ false) ks → Each (λ y. tuple k ≢ y) (map tuple ks)
  each_apart k [] h = tt
  each_apart k (x ∷ xs) h = (λ e. true≢false (sym (equal k x e) ∙ h.0), each_apart k xs h.1)

  keys_apart : (ks : List K) → IsDistinct eq ks → Apart (map tuple ks)
  unfolding IsDistinct
  keys_apart [] h = tt
  keys_apart (k ∷ ks) h = (each_apart k ks h.0, keys_apart ks h.1)

  pub keys_counted : (ks : List K) → IsDistinct eq ks → length ks ≡ length (different compare_rows (map tuple ks))
  keys_counted ks h = sym (length-different compare_rows rows_full (map tuple ks) (keys_apart ks h) ∙ length-map ks tuple)

  -- keys put in order
  below : (x y : K) → is_lt (cmp y x) ≡ false → eq x y ≡ false → compare_rows (tuple x) (tuple y) ≡ Less
  below x y l n = go (compare_rows (tuple x) (tuple y)) refl
    where
      go : (p : Ordering) → compare_rows (tuple x) (tuple y) ≡ p → compare_rows (tuple x) (tuple y) ≡ Less
      go Less e = e
      go Equal e = absurd (true≢false (sym (ties x y ∙ ap is_eq (ranks x y ∙ e)) ∙ n))
      go Greater e = absurd (true≢false (sym (ap is_lt (ranks y x ∙ rows_order.flip (tuple y) (tuple x) ∙ turned e)) ∙ l))
        where
          turned : compare_rows (tuple x) (tuple y) ≡ Greater → ordering_reverse (compare_rows (tuple x) (tuple y)) ≡ Less
          turned e = ap ordering_reverse e

  rising : (ks : List K) → IsSorted cmp ks → IsDistinct eq ks → Rising compare_rows (map tuple ks)
  unfolding IsDistinct
  rising [] h d = tt
  rising (x ∷ []) h d = tt
  rising (x ∷ y ∷ ys) h d = (below x y (h 0 x (omega arith) (omega arith)) d.0.0, rising (y ∷ ys) later d.1)
    where
      later : IsSorted cmp (y ∷ ys)
      later k z l m =
          let e : suc k + 1 ≡ suc (k + 1) = omega arith in
          subst (λ n. is_lt (cmp (get_or (x ∷ y ∷ ys) n z) (get_or (y ∷ ys) k z)) ≡ false) e (h (suc k) z (omega arith) (omega arith))

  pub keys_sorted : (ks ns : List K) → IsSorted cmp ns → IsDistinct eq ns → ((q : K) → list_any (eq q) ns ≡ list_any (eq q) ks) → map tuple ns ≡ different compare_rows (map tuple ks)
  keys_sorted ks ns h d m =
      sym (different_rising compare_rows (map tuple ns) (rising ns h d))
      ∙ set_same compare_rows rows_full (map tuple ns) (map tuple ks)
      (λ x a. over ns ks (λ q. sym (m q)) x a)
      (λ x a. over ks ns m x a)
    where
      over : (us vs : List K) → ((q : K) → list_any (eq q) vs ≡ list_any (eq q) us) → (x : List Value) → Among x (map tuple us) → Among x (map tuple vs)
      over us vs m x a = let r = found x us a in subst (λ z. Among z (map tuple vs)) (sym r.1) (among_any r.0 vs (m r.0 ∙ r.2))

-- a text that a set has, whatever keeps it
module _ {V : Type 0} (bytes_of : V → List ℕ) where
  text_among : (bytes : List ℕ) (ks : List V) → list_any (λ k. pointwise nat_eq bytes (bytes_of k)) ks ≡ true → Among (text_tuple bytes) (map (λ k. text_tuple (bytes_of k)) ks)
  text_among bytes [] h = absurd (true≢false (sym h))
  text_among bytes (x ∷ xs) h = go (pointwise nat_eq bytes (bytes_of x)) refl h (text_among bytes xs)
    where
      go : (b : Bool) → pointwise nat_eq bytes (bytes_of x) ≡ b → (b || list_any (λ k. pointwise nat_eq bytes (bytes_of k)) xs) ≡ true →
          (list_any (λ k. pointwise nat_eq bytes (bytes_of k)) xs ≡ true → Among (text_tuple bytes) (map (λ k. text_tuple (bytes_of k)) xs)) →
          Among (text_tuple bytes) (map (λ k. text_tuple (bytes_of k)) (x ∷ xs))
      go true e h rest = inl (ap text_tuple ((bytes_decides bytes (bytes_of x)).0 e))
      go false e h rest = inr (rest h)

  pub text_there : (ks : List V) (bytes : List ℕ) → list_any (λ k. pointwise nat_eq bytes (bytes_of k)) ks ≡ true →
      SameSet (map (λ k. text_tuple (bytes_of k)) ks) (map (λ k. text_tuple (bytes_of k)) ks ++ text_tuple bytes ∷ [])
  text_there ks bytes h =
      sym
      (set_last compare_rows rows_full (text_tuple bytes) (map (λ k. text_tuple (bytes_of k)) ks)
      ∙ set_there compare_rows rows_full (text_tuple bytes) (map (λ k. text_tuple (bytes_of k)) ks) (text_among bytes ks h))

-- rows of keys added behind some, and one more
pub rows_added : {K : Type 0} (tuple : K → List Value) (old now new : List (List Value)) (ks : List K) (i : ℕ) (k : K) (r : List Value) → i < length ks → k ≡ get_or ks i k → r ≡ tuple k →
    SameSet now (old ++ map tuple (take i ks)) → SameSet new (now ++ r ∷ []) → SameSet new (old ++ map tuple (take (i + 1) ks))
rows_added {K} tuple old now new ks i k r l e f h step =
    step
    ∙ sets_join compare_rows rows_full now (old ++ map tuple (take i ks)) (r ∷ []) (tuple k ∷ []) h (ap (λ x. x ∷ []) f)
    ∙ ap (different compare_rows) (append_assoc old (map tuple (take i ks)) (tuple k ∷ []))
    ∙ ap (λ l. different compare_rows (old ++ l)) (sym (map-append tuple (take i ks) (k ∷ [])) ∙ ap (map tuple) (sym one_more))
  where
    one_more : take (i + 1) ks ≡ take i ks ++ k ∷ []
    one_more = take_more ks i k l ∙ ap (λ x. take i ks ++ x ∷ []) (sym e)

-- what was there stands at the front
pub same_front : {K : Type 0} (old now new : List K) → take (length old) now ≡ old → take (length now) new ≡ now → take (length old) new ≡ old
same_front old now new h k =
    let shorter : length old ≤ length now = omega (arith, ap length h, length-take (length old) now) in
    sym (take-take (length old) (length now) new shorter) ∙ ap (take (length old)) k ∙ h

-- the sets of two lists joined
pub joined_sets : (new A A' B B' : List (List Value)) → SameSet A A' → SameSet B B' → SameSet new (A ++ B) → SameSet new (A' ++ B')
joined_sets new A A' B B' a b h = h ∙ sets_join compare_rows rows_full A A' B B' a b
