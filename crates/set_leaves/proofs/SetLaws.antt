-- Sets of lists: what one more element makes of a set, and when two lists have one set.
use Rattle.std.proofs.Common.{◌≡◌, ◌≢◌, inl, inr, suc, List, [], ◌∷◌, ◌++◌, length, refl, sym, ap, ap₂, ◌∙◌, subst, Ordering, Less, Equal, Greater}
use Rattle.agg_terms.specs.Laws.{IsFullOrder}
use Rattle.agg_terms.specs.Lists.{Among, Apart, Each, Rising, is_empty}
use Rattle.agg_terms.specs.Order.{different, into_set}
use Rattle.agg_terms.proofs.Ordered.{different_keeps, orders}
use Rattle.agg_terms.proofs.Sorting.{into_set-filled, set_steady, set_swap, set_twice, steady_joins, up}
use Rattle.agg_meaning.proofs.Kept.{different_order, each_different}
use Rattle.agg_meaning.proofs.LeafTrees.{rising_rest}
use Rattle.agg_meaning.proofs.TreeLaws.{rising_below}

each_among : {X : Type 0} (P : X → Type 0) (x : X) (xs : List X) → Each P xs → Among x xs → P x
each_among P x [] k h = absurd h
each_among P x (y ∷ ys) k (inl e) = subst P (sym e) k.0
each_among P x (y ∷ ys) k (inr h) = each_among P x ys k.1 h

module _ {X : Type 0} (cmp : X → X → Ordering) (o : IsFullOrder cmp) where
  -- one more element, at the end
  pub set_last : (x : X) (K : List X) → different cmp (K ++ x ∷ []) ≡ into_set cmp x (different cmp K)
  set_last x [] = refl
  set_last x (a ∷ K) = ap (into_set cmp a) (set_last x K) ∙ set_swap cmp (orders cmp o) a x (different cmp K)

  -- one that is there already
  pub set_there : (x : X) (K : List X) → Among x K → into_set cmp x (different cmp K) ≡ different cmp K
  set_there x [] h = absurd h
  set_there x (a ∷ K) (inl e) =
      subst (λ z. into_set cmp z (into_set cmp a (different cmp K)) ≡ into_set cmp a (different cmp K)) (sym e) (set_twice cmp (orders cmp o) a (different cmp K))
  set_there x (a ∷ K) (inr h) = set_swap cmp (orders cmp o) x a (different cmp K) ∙ ap (into_set cmp a) (set_there x K h)

  -- lists joined
  pub sets_join : (A A' B B' : List X) → different cmp A ≡ different cmp A' → different cmp B ≡ different cmp B' → different cmp (A ++ B) ≡ different cmp (A' ++ B')
  sets_join A A' B B' a b = steady_joins (into_set cmp) (set_steady cmp (orders cmp o)) A A' B B' a b

  -- how many there are
  longer : (x : X) (s : List X) → Each (λ y. x ≢ y) s → length (into_set cmp x s) ≡ suc (length s)
  longer x [] k = refl
  longer x (a ∷ s) k = go (cmp x a) refl (longer x s k.1)
    where
      go : (p : Ordering) → cmp x a ≡ p → length (into_set cmp x s) ≡ suc (length s) → length (into_set cmp x (a ∷ s)) ≡ suc (suc (length s))
      go Less e h = rw e
      go Equal e h = absurd (k.0 (o.1 x a e))
      go Greater e h = rw e (ap suc h)

  pub length-different : (K : List X) → Apart K → length (different cmp K) ≡ length K
  length-different [] k = refl
  length-different (a ∷ K) k =
      longer a (different cmp K) (each_different (λ y. a ≢ y) cmp K k.0) ∙ ap suc (length-different K k.1)

  pub is_empty-different : (K : List X) → is_empty (different cmp K) ≡ is_empty K
  is_empty-different [] = refl
  is_empty-different (a ∷ K) = into_set-filled cmp a (different cmp K)

  -- rising lists with the same elements are one list
  above : (a : X) (A : List X) → Rising cmp (a ∷ A) → Each (λ z. cmp a z ≡ Less) A
  above a [] k = tt
  above a (b ∷ A) k = rising_below cmp (orders cmp o) a b A k.0 k.1

  not_both : (a b : X) → cmp a b ≡ Less → cmp b a ≡ Less → ⊥
  not_both a b e f = clash (sym f ∙ up cmp (orders cmp o) a b e)
    where
      clash : Less ≡ Greater → ⊥
      clash e = cc

  heads : (x y : X) (A B : List X) → Rising cmp (x ∷ A) → Rising cmp (y ∷ B) → Among x (y ∷ B) → Among y (x ∷ A) → x ≡ y
  heads x y A B a b (inl e) h = e
  heads x y A B a b (inr k) (inl e) = sym e
  heads x y A B a b (inr k) (inr h) =
      absurd (not_both x y (each_among (λ z. cmp x z ≡ Less) y A (above x A a) h) (each_among (λ z. cmp y z ≡ Less) x B (above y B b) k))

  -- an element after x is not x
  after : (x y z : X) (A B : List X) → Rising cmp (x ∷ A) → x ≡ y → Among z A → Among z (y ∷ B) → Among z B
  after x y z A B a e h (inl f) =
      let l : cmp x z ≡ Less = each_among (λ w. cmp x w ≡ Less) z A (above x A a) h in
      let m : cmp z z ≡ Less = subst (λ w. cmp w z ≡ Less) (e ∙ sym f) l in
      absurd (not_both z z m m)
  after x y z A B a e h (inr k) = k

  rising_same : (A B : List X) → Rising cmp A → Rising cmp B → ((x : X) → Among x A → Among x B) → ((x : X) → Among x B → Among x A) → A ≡ B
  rising_same [] [] a b f g = refl
  rising_same [] (y ∷ B) a b f g = absurd (g y (inl refl))
  rising_same (x ∷ A) [] a b f g = absurd (f x (inl refl))
  rising_same (x ∷ A) (y ∷ B) a b f g =
      let e : x ≡ y = heads x y A B a b (f x (inl refl)) (g y (inl refl)) in
      ap₂ ◌∷◌ e
      (rising_same A B (rising_rest cmp x A a) (rising_rest cmp y B b)
      (λ z h. after x y z A B a e h (f z (inr h)))
      (λ z h. after y x z B A b (sym e) h (g z (inr h))))

  -- lists with the same elements have one set
  pub set_same : (A B : List X) → ((x : X) → Among x A → Among x B) → ((x : X) → Among x B → Among x A) → different cmp A ≡ different cmp B
  set_same A B f g =
      rising_same (different cmp A) (different cmp B) (different_order cmp (orders cmp o) A) (different_order cmp (orders cmp o) B)
      (λ x h. (different_keeps cmp o x B).1 (f x ((different_keeps cmp o x A).0 h)))
      (λ x h. (different_keeps cmp o x A).1 (g x ((different_keeps cmp o x B).0 h)))
