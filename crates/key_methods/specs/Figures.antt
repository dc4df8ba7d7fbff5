-- The number that bytes spell, the highest first. The bytes of a number are std's `bytes_high_first`.
use Rattle.std.specs.Prelude.{ℕ, ◌+◌, ◌*◌, List, [], ◌∷◌}

-- bytes behind a number
abbrev pub worth_behind : ℕ → List ℕ → ℕ
worth_behind n [] = n
worth_behind n (b ∷ bs) = worth_behind (n * 256 + b) bs

abbrev pub worth : List ℕ → ℕ
worth bs = worth_behind 0 bs
