-- The tests of values and trees are exact: each is true where, and only where, the value or the tree is one.
use Rattle.std.proofs.Common.{◌≡◌, ◌≢◌, ◌⊎◌, inl, inr, Bool, true, false, not, ◌&&◌, ◌||◌, List, [], ◌∷◌, refl, sym, ap, true≢false, Ordering, Less, Equal, Greater}
use Rattle.std.specs.Prelude.{◌↔◌}
use Rattle.std.specs.List.{list_all}
use Rattle.std.specs.Ordering.{is_eq, is_le, is_lt}
use Rattle.agg_terms.specs.Lists.{Apart, Each, NotFalling, Rising, Stepwise}
use Rattle.agg_terms.specs.Fitting.{neighbours, are_apart, is_rising, is_not_falling}

-- a test that decides a claim
abbrev pub Exact : Bool → Type 0 → Type 0
Exact b P = (b ≡ true) ↔ P

pub no : {A : Type 0} → false ≡ true → A
no e = absurd (true≢false (sym e))

pub both : {P Q : Type 0} (a b : Bool) → Exact a P → Exact b Q → Exact (a && b) (P × Q)
both true b p q = (λ e. (p.0 refl, q.0 e), λ h. q.1 h.1)
both false b p q = (λ e. no e, λ h. no (p.1 h.0))

pub one_of : {P Q : Type 0} (a b : Bool) → Exact a P → Exact b Q → Exact (a || b) (P ⊎ Q)
one_of true b p q = (λ e. inl (p.0 refl), λ h. refl)
one_of false b p q = (λ e. inr (q.0 e), λ h. elim h [ inl k ↦ no (p.1 k) | inr k ↦ q.1 k ])

pub each : {X : Type 0} (p : X → Bool) (P : X → Type 0) → ((x : X) → Exact (p x) (P x)) → (xs : List X) → Exact (list_all p xs) (Each P xs)
each p P f [] = (λ e. tt, λ h. refl)
each p P f (x ∷ xs) = both (p x) (list_all p xs) (f x) (each p P f xs)

pub steps : {X : Type 0} (p : X → X → Bool) (xs : List X) → Exact (neighbours p xs) (Stepwise (λ x y. p x y ≡ true) xs)
steps p [] = (λ e. tt, λ h. refl)
steps p (x ∷ []) = (λ e. tt, λ h. refl)
steps p (x ∷ y ∷ ys) = both (p x y) (neighbours p (y ∷ ys)) (λ e. e, λ e. e) (steps p (y ∷ ys))

stepwise_map : {X : Type 0} (P Q : X → X → Type 0) → ((x y : X) → P x y → Q x y) → (xs : List X) → Stepwise P xs → Stepwise Q xs
stepwise_map P Q f [] h = tt
stepwise_map P Q f (x ∷ []) h = tt
stepwise_map P Q f (x ∷ y ∷ ys) h = (f x y h.0, stepwise_map P Q f (y ∷ ys) h.1)

less : (o : Ordering) → is_lt o ≡ true → o ≡ Less
less Less e = refl
less Equal e = no e
less Greater e = no e

equal : (o : Ordering) → is_eq o ≡ true → o ≡ Equal
equal Less e = no e
equal Equal e = refl
equal Greater e = no e

pub rising : {X : Type 0} (cmp : X → X → Ordering) (xs : List X) → Exact (is_rising cmp xs) (Rising cmp xs)
rising cmp xs =
    let s = steps (λ x y. is_lt (cmp x y)) xs in (
      λ e. stepwise_map (λ x y. is_lt (cmp x y) ≡ true) (λ x y. cmp x y ≡ Less) (λ x y h. less (cmp x y) h) xs (s.0 e),
      λ h. s.1 (stepwise_map (λ x y. cmp x y ≡ Less) (λ x y. is_lt (cmp x y) ≡ true) (λ x y e. ap is_lt e) xs h),
    )

pub not_falling : {X : Type 0} (cmp : X → X → Ordering) (xs : List X) → Exact (is_not_falling cmp xs) (NotFalling cmp xs)
not_falling cmp xs = steps (λ x y. is_le (cmp x y)) xs

negated : (b : Bool) {P : Type 0} → Exact b P → Exact (not b) (P → ⊥)
negated true p = (λ e. no e, λ h. absurd (h (p.0 refl)))
negated false p = (λ e k. no (p.1 k), λ h. refl)

pub apart : {X : Type 0} (cmp : X → X → Ordering) → ((x y : X) → Exact (is_eq (cmp x y)) (x ≡ y)) → (xs : List X) → Exact (are_apart cmp xs) (Apart xs)
apart cmp f [] = (λ e. tt, λ h. refl)
apart cmp f (x ∷ xs) =
    both (list_all (λ y. not (is_eq (cmp x y))) xs) (are_apart cmp xs)
    (each (λ y. not (is_eq (cmp x y))) (λ y. x ≢ y) (λ y. negated (is_eq (cmp x y)) (f x y)) xs)
    (apart cmp f xs)
