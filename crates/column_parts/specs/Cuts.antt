-- A list cut at ascending places.
use Rattle.std.specs.Prelude.{◌≡◌, ℕ, ◌+◌, ◌≤◌, List, [], ◌∷◌, ◌++◌, drop, map, slice_range}

-- the part between each place and the next
abbrev pub cuts : {A : Type 0} → List ℕ → List A → List (List A)
cuts [] xs = []
cuts (a ∷ []) xs = []
cuts (a ∷ b ∷ rest) xs = slice_range xs a b ∷ cuts (b ∷ rest) xs

-- places from a to the end, none below the one before it
abbrev pub Ascends : ℕ → List ℕ → ℕ → Type 0
Ascends a [] end = a ≡ end
Ascends a (b ∷ rest) end = (a ≤ b) × Ascends b rest end

-- the places at which a list of that length is cut: from 0 to its end
abbrev pub IsCut : List ℕ → ℕ → Type 0
IsCut [] end = ⊥
IsCut (a ∷ rest) end = (a ≡ 0) × Ascends a rest end

-- the places of a list of that length, and behind them those of a second list
abbrev pub joined_places : ℕ → List ℕ → List ℕ → List ℕ
joined_places base at more = at ++ map (λ place. base + place) (drop 1 more)
