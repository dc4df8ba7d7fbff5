-- Numbers of one type.
use Rattle.std.specs.Prelude.{◌≡◌, ℤ, ◌≤ℤ◌, pos, negsuc, Bool, true, false, List, ◌++◌, [], ◌∷◌, Result, Ok, Err}
use Rattle.value_lists.specs.declared.out_of_memory.OutOfMemory.{OutOfMemory}
use Rattle.column_parts.specs.declared.number_type.NumberType.{NumberType}
use Rattle.column_parts.specs.declared.number_type.NumberType.TheVariants.{U8, U16, U32, U64, I8, I16, I32, I64}

-- a list of numbers with their type
pub record NumberList : Type 0 where
  pub kind : NumberType
  pub numbers : List ℤ

-- the least and the greatest number of a type (manual: "Int and UInt")
abbrev pub least : NumberType → ℤ
least I8 = negsuc 127
least I16 = negsuc 32767
least I32 = negsuc 2147483647
least I64 = negsuc 9223372036854775807
least _ = pos 0

abbrev pub greatest : NumberType → ℤ
greatest U8 = pos 255
greatest U16 = pos 65535
greatest U32 = pos 4294967295
greatest U64 = pos 18446744073709551615
greatest I8 = pos 127
greatest I16 = pos 32767
greatest I32 = pos 2147483647
greatest I64 = pos 9223372036854775807

-- a number of a type
abbrev pub IsOf : NumberType → ℤ → Type 0
IsOf kind z = (least kind ≤ℤ z) × (z ≤ℤ greatest kind)

-- the list with these numbers, or one number, more
abbrev pub with_numbers : NumberList → List ℤ → NumberList
with_numbers list more = record { kind = list.kind; numbers = list.numbers ++ more }

abbrev pub with_number : NumberList → ℤ → NumberList
with_number list z = with_numbers list (z ∷ [])

-- a number that is taken where it is of the type, and only there
abbrev pub Took : NumberList → ℤ → NumberList → Result Bool OutOfMemory → Type 0
Took list z after (Ok true) = IsOf list.kind z × (after ≡ with_number list z)
Took list z after (Ok false) = (IsOf list.kind z → ⊥) × (after ≡ list)
Took list z after (Err fault) = after ≡ list
