-- Small words on values.
use Rattle.std.specs.Prelude.{ℤ, None, Option, Some}
use Rattle.agg_terms.specs.Values.{Num, Value}

-- the number that a value is
abbrev pub number : Value → Option ℤ
number (Num n) = Some n
number _ = None
