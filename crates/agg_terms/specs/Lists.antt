-- Words on lists that the definitions use.
use Rattle.std.specs.Prelude.{ℕ, zero, suc, Bool, true, false, cond, List, [], ◌∷◌, ◌≡◌, ◌≢◌, ◌⊎◌}
use Rattle.std.specs.declared.cmp.Ordering.{Ordering}
use Rattle.std.specs.declared.cmp.Ordering.TheVariants.{Less}
use Rattle.std.specs.Ordering.{is_le}

-- the numbers from i on, n of them
abbrev pub places : ℕ → ℕ → List ℕ
places i zero = []
places i (suc n) = i ∷ places (suc i) n

-- each element with its place, from i on
abbrev pub numbered : {X : Type 0} → ℕ → List X → List (ℕ × X)
numbered i [] = []
numbered i (x ∷ xs) = (i, x) ∷ numbered (suc i) xs

-- whether some element passes a test
abbrev pub some : {X : Type 0} → (X → Bool) → List X → Bool
some p [] = false
some p (x ∷ xs) = cond (p x) true (some p xs)

-- whether there is no element
abbrev pub is_empty : {X : Type 0} → List X → Bool
is_empty [] = true
is_empty (x ∷ xs) = false

-- all but the last
abbrev pub front : {X : Type 0} → List X → List X
front [] = []
front (x ∷ []) = []
front (x ∷ y ∷ ys) = x ∷ front (y ∷ ys)

-- a list gone through from its end, an element at a time
abbrev pub built : {X Y : Type 0} → (X → Y → Y) → Y → List X → Y
built step start [] = start
built step start (x ∷ xs) = step x (built step start xs)

-- all but the first
abbrev pub rest_of : {X : Type 0} → List X → List X
rest_of [] = []
rest_of (x ∷ xs) = xs

-- P holds of each element
abbrev pub Each : {X : Type 0} → (X → Type 0) → List X → Type 0
Each P [] = Unit {0}
Each P (x ∷ xs) = P x × Each P xs

-- x is an element of the list
abbrev pub Among : {X : Type 0} → X → List X → Type 0
Among x [] = ⊥
Among x (y ∷ ys) = (x ≡ y) ⊎ Among x ys

-- no element stands twice
abbrev pub Apart : {X : Type 0} → List X → Type 0
Apart [] = Unit {0}
Apart (x ∷ xs) = Each (λ y. x ≢ y) xs × Apart xs

-- R holds of each element and the next one
abbrev pub Stepwise : {X : Type 0} → (X → X → Type 0) → List X → Type 0
Stepwise R [] = Unit {0}
Stepwise R (x ∷ []) = Unit {0}
Stepwise R (x ∷ y ∷ ys) = R x y × Stepwise R (y ∷ ys)

-- each is above the one before it; none is below the one before it
abbrev pub Rising : {X : Type 0} → (X → X → Ordering) → List X → Type 0
Rising cmp xs = Stepwise (λ x y. cmp x y ≡ Less) xs

abbrev pub NotFalling : {X : Type 0} → (X → X → Ordering) → List X → Type 0
NotFalling cmp xs = Stepwise (λ x y. is_le (cmp x y) ≡ true) xs
