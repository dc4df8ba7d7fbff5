-- Texts that are keys.
use Rattle.std.specs.Prelude.{ℕ, Bool, nat_eq, List}
use Rattle.std.specs.Cmp.Lexicographic.{pointwise}

-- one text
abbrev pub same_bytes : List ℕ → List ℕ → Bool
same_bytes = pointwise nat_eq
