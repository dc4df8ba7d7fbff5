-- The parameters of a call, as they are written in a request.
use Rattle.std.specs.Prelude.{ℕ, ℤ, List}

-- A whole number; a decimal with its digits without the point and the number of its places; a text in quotes.
pub data Literal : Type 0 where
  Int : ℤ → Literal
  Decimal : ℕ → ℕ → Literal
  Text : List ℕ → Literal
