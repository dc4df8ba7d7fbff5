-- Lists that are read and changed at one place, and sums over them.
use Rattle.std.proofs.Common.{◌≡◌, ◌≢◌, ℕ, zero, suc, ◌+◌, ◌<◌, ◌≤◌, eqb, Bool, true, false, List, [], ◌∷◌, ◌++◌, length, get_or, set, refl, sym, ap, ◌∙◌, subst, arith, ⊎_elim, eq-eqb, ne_eqb}
use Rattle.std.specs.Prelude.{sum_by, cond}
use Rattle.std.proofs.lemmas.List.Sums.{sum_by-cons, sum_by-set, sum_by_push, get_or-le-sum_by}
use mathlib.Core.Option.{some, some-ne-none, some-injective}
use lib.ListN.{get_elem?}
use Rattle.atomic_table.proofs.Lists.{at_set}
use Rattle.piece_claims.specs.proving.Rule.{one_at}

module _ {A : Type 0} where
  pub below_length : (l : List A) (i : ℕ) (a : A) → get_elem? l i ≡ some a → i < length l
  below_length [] i a e = absurd (some-ne-none a (sym e))
  below_length (x ∷ xs) zero a e = omega arith
  below_length (x ∷ xs) (suc i) a e = let rest = below_length xs i a e in omega arith

  pub there : (l : List A) (k : ℕ) → k < length l → (a : A) × (get_elem? l k ≡ some a)
  there [] k lt = absurd (omega arith)
  there (x ∷ xs) zero lt = (x, refl)
  there (x ∷ xs) (suc k) lt = there xs k (omega arith)

  get_or_at : (l : List A) (i : ℕ) (d a : A) → get_elem? l i ≡ some a → get_or l i d ≡ a
  get_or_at [] i d a e = absurd (some-ne-none a (sym e))
  get_or_at (x ∷ xs) zero d a e = some-injective x a e
  get_or_at (x ∷ xs) (suc i) d a e = get_or_at xs i d a e

  -- what holds of each element, once one is set
  pub each_set : (K : ℕ → A → Type 0) (l : List A) (i : ℕ) (w : A) → K i w → ((j : ℕ) (a : A) → j ≢ i → get_elem? l j ≡ some a → K j a)
      → (j : ℕ) (a : A) → get_elem? (set l i w) j ≡ some a → K j a
  each_set K l i w mine others j a e = ⊎_elim (λ (t : (j ≡ i) × (w ≡ a)). subst (λ (x : ℕ × A). K x.0 x.1) (λ k. (sym t.0 k, t.1 k)) mine)
      (λ (t : (j ≢ i) × (get_elem? l j ≡ some a)). others j a t.0 t.1) (at_set l i j w a e)

module _ {A : Type 0} (f : A → ℕ) where
  pub sum_set : (l : List A) (i : ℕ) (v w : A) → get_elem? l i ≡ some v → sum_by f (set l i w) + f v ≡ sum_by f l + f w
  sum_set l i v w at = subst (λ u. sum_by f (set l i w) + f u ≡ sum_by f l + f w) (get_or_at l i v v at) (sum_by-set f l i w v (below_length l i v at))

  -- a change that the sum doesn't see
  pub sum_same : (l : List A) (i : ℕ) (v w : A) → get_elem? l i ≡ some v → f w ≡ f v → sum_by f (set l i w) ≡ sum_by f l
  sum_same l i v w at same = let s = sum_set l i v w at in omega arith

  pub sum_at : (l : List A) (i : ℕ) (v : A) → get_elem? l i ≡ some v → f v ≤ sum_by f l
  sum_at l i v at = subst (λ u. f u ≤ sum_by f l) (get_or_at l i v v at) (get_or-le-sum_by f l i v (below_length l i v at))

  pub sum_two : (l : List A) (i j : ℕ) (v w : A) → i ≢ j → get_elem? l i ≡ some v → get_elem? l j ≡ some w → f v + f w ≤ sum_by f l
  sum_two [] i j v w apart at there = absurd (some-ne-none v (sym at))
  sum_two (x ∷ xs) zero zero v w apart at there = absurd (apart refl)
  sum_two (x ∷ xs) zero (suc j) v w apart at there = let same : f x ≡ f v = ap f (some-injective x v at) in let rest = sum_at xs j w there in omega (arith, sum_by-cons f x xs)
  sum_two (x ∷ xs) (suc i) zero v w apart at there = let same : f x ≡ f w = ap f (some-injective x w there) in let rest = sum_at xs i v at in omega (arith, sum_by-cons f x xs)
  sum_two (x ∷ xs) (suc i) (suc j) v w apart at there = let rest = sum_two xs i j v w (λ e. apart (ap suc e)) at there in omega (arith, sum_by-cons f x xs)

  sum_none : (l : List A) → ((j : ℕ) (u : A) → get_elem? l j ≡ some u → f u ≡ 0) → sum_by f l ≡ 0
  sum_none [] none = refl
  sum_none (x ∷ xs) none = let here = none zero x refl in let rest = sum_none xs (λ j. none (suc j)) in omega (arith, sum_by-cons f x xs)

  -- the sum is what one element has, where no other has anything
  pub sum_only : (l : List A) (i : ℕ) (v : A) → get_elem? l i ≡ some v → ((j : ℕ) (u : A) → j ≢ i → get_elem? l j ≡ some u → f u ≡ 0) → sum_by f l ≡ f v
  sum_only [] i v at none = absurd (some-ne-none v (sym at))
  sum_only (x ∷ xs) zero v at none =
      let same : f x ≡ f v = ap f (some-injective x v at) in
      let rest = sum_none xs (λ j u e. none (suc j) u (λ z. absurd (omega arith)) e) in omega (arith, sum_by-cons f x xs)
  sum_only (x ∷ xs) (suc i) v at none =
      let here = none zero x (λ z. absurd (omega arith)) refl in
      let rest = sum_only xs i v at (λ j u n e. none (suc j) u (λ z. n (omega arith)) e) in omega (arith, sum_by-cons f x xs)

pub one_same : (i k : ℕ) → i ≡ k → one_at i k ≡ 1
one_same i k e = ap (λ b. cond b (let n : ℕ = 1 in n) 0) (eq-eqb i k e)

pub one_other : (i k : ℕ) → i ≢ k → one_at i k ≡ 0
one_other i k e = ap (λ b. cond b (let n : ℕ = 1 in n) 0) (ne_eqb i k e)
