-- The types at the next link.
use Rattle.std.proofs.Common.{◌≡◌, List, [], ◌∷◌, ◌++◌, map, refl, ap}
use Rattle.agg_terms.specs.Lists.{front}

pub front-last : {X : Type 0} (xs : List X) (x : X) → front (xs ++ x ∷ []) ≡ xs
front-last [] x = refl
front-last (y ∷ []) x = refl
front-last (y ∷ z ∷ zs) x = ap (λ ys. y ∷ ys) (front-last (z ∷ zs) x)

pub front-map : {X Y : Type 0} (f : X → Y) (xs : List X) → front (map f xs) ≡ map f (front xs)
front-map f [] = refl
front-map f (x ∷ []) = refl
front-map f (x ∷ y ∷ ys) = ap (λ zs. f x ∷ zs) (front-map f (y ∷ ys))
