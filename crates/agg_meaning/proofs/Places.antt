-- Lists read place by place.
use Rattle.std.proofs.Common.{◌≡◌, ℕ, zero, suc, ◌+◌, ◌<◌, ◌≤◌, List, [], ◌∷◌, map, length, get_or, refl, ap, ap₂, ◌∙◌, arith}
use Rattle.agg_terms.specs.Lists.{places}

-- an element of a list made place by place
pub get_or-places : {X : Type 0} (f : ℕ → X) (d : X) (s n i : ℕ) → i < n → get_or (map f (places s n)) i d ≡ f (s + i)
get_or-places f d s zero i h = absurd (omega arith)
get_or-places f d s (suc n) zero h = ap f (omega arith)
get_or-places f d s (suc n) (suc i) h = let e : suc s + i ≡ s + suc i = omega arith in get_or-places f d (suc s) n i (omega arith) ∙ ap f e

pub get_or-past : {X : Type 0} (xs : List X) (d : X) (i : ℕ) → length xs ≤ i → get_or xs i d ≡ d
get_or-past [] d i h = refl
get_or-past (x ∷ xs) d zero h = absurd (omega arith)
get_or-past (x ∷ xs) d (suc i) h = get_or-past xs d i (omega arith)

-- a list is what stands at its places
pub by_places : {X : Type 0} (f : ℕ → X) (d : X) (xs : List X) (s n : ℕ) → length xs ≡ n → ((i : ℕ) → i < n → get_or xs i d ≡ f (s + i)) → xs ≡ map f (places s n)
by_places f d [] s zero e h = refl
by_places f d [] s (suc n) e h = absurd (omega arith)
by_places f d (x ∷ xs) s zero e h = absurd (omega arith)
by_places f d (x ∷ xs) s (suc n) e h =
    let z : s + 0 ≡ s = omega arith in
    ap₂ ◌∷◌ (h 0 (omega arith) ∙ ap f z) (by_places f d xs (suc s) n (omega arith) (λ i l. let q : s + suc i ≡ suc s + i = omega arith in h (suc i) (omega arith) ∙ ap f q))

-- places below a number
pub map-places : {X : Type 0} (f g : ℕ → X) (s n : ℕ) → ((i : ℕ) → i < s + n → f i ≡ g i) → map f (places s n) ≡ map g (places s n)
map-places f g s zero h = refl
map-places f g s (suc n) h = ap₂ ◌∷◌ (h s (omega arith)) (map-places f g (suc s) n (λ i k. h i (omega arith)))
