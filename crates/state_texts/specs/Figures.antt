-- Numbers as bytes, the highest first.
use Rattle.std.specs.Prelude.{ℕ, zero, suc, ◌+◌, ◌*◌, ◌/◌, ◌%◌, ◌^◌, ℤ, List, [], ◌∷◌, length}
use Rattle.std.specs.Int.{cast_unsigned}
use mir.Syntax.{w128}

-- the k bytes of n, which is below 256 ^ k
abbrev pub high : ℕ → ℕ → List ℕ
high zero n = []
high (suc k) n = n / 256 ^ k ∷ high k (n % 256 ^ k)

-- the number that bytes spell
abbrev pub worth : List ℕ → ℕ
worth [] = 0
worth (b ∷ bs) = b * 256 ^ length bs + worth bs

-- the lowest k bytes of a number, a negative one in two's complement, as a number
abbrev pub low : ℕ → ℤ → ℕ
low k z = cast_unsigned w128 z % 256 ^ k

-- a number in k bytes, a negative one in two's complement
abbrev pub number_text : ℕ → ℤ → List ℕ
number_text k z = high k (low k z)
