-- Keys in the order of their first appearance, and their places.
use Rattle.std.specs.Prelude.{ℕ, Bool, cond, nat_eq, List, [], ◌∷◌}
use Rattle.std.specs.List.{position_or_len}
use Rattle.indexmap.specs.IndexSet.{insert_key}

module _ {K : Type 0} (eq : K → K → Bool) where
  -- the different keys, in order of first appearance, behind those that were there
  abbrev pub keys_with : List K → List K → List K
  keys_with ks [] = ks
  keys_with ks (k ∷ more) = keys_with (insert_key eq ks k) more

  -- the place of each key among the keys so far, where a new key goes last
  abbrev pub places_of : List K → List K → List ℕ
  places_of ks [] = []
  places_of ks (k ∷ more) = position_or_len (eq k) ks ∷ places_of (insert_key eq ks k) more

-- the elements whose place is g, in their order
abbrev pub reaching : {X : Type 0} → ℕ → List ℕ → List X → List X
reaching g [] xs = []
reaching g (p ∷ ps) [] = []
reaching g (p ∷ ps) (x ∷ xs) = cond (nat_eq p g) (x ∷ reaching g ps xs) (reaching g ps xs)
