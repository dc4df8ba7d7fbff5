-- All but the last of a list.
use Rattle.std.proofs.Common.{◌≡◌, ap, ℕ, zero, suc, ◌-◌, List, [], ◌∷◌, length, take, map, arith}
use Rattle.agg_terms.specs.Lists.{front}

pub front-take : {X Y : Type 0} (f : X → Y) (xs : List X) (n : ℕ) → n ≡ length xs - 1 → map f (take n xs) ≡ front (map f xs)
front-take f [] n h = let z : n ≡ 0 = omega arith in rw z
front-take f (x ∷ []) n h = let z : n ≡ 0 = omega arith in rw z
front-take f (x ∷ y ∷ ys) zero h = absurd (omega arith)
front-take f (x ∷ y ∷ ys) (suc n) h =
    let k : n ≡ length (y ∷ ys) - 1 = omega arith in ap (λ z. f x ∷ z) (front-take f (y ∷ ys) n k)
