-- Bytes as lower-case hexadecimal text.
use Rattle.std.specs.Prelude.{ℕ, ◌+◌, ◌*◌, ◌%◌, ◌==◌, nat_le, Bool, not, ◌&&◌, ◌||◌, List, [], ◌∷◌, length, Option, Some, None, position, if◌then◌else◌}
use Rattle.tsv_text.specs.Escapes.{hex_value}

-- 0 to 9 or a to f
abbrev pub is_lower_hex : ℕ → Bool
is_lower_hex b = (nat_le 48 b && nat_le b 57) || (nat_le 97 b && nat_le b 102)

abbrev pub is_not_lower_hex : ℕ → Bool
is_not_lower_hex b = not (is_lower_hex b)

abbrev pub odd_at : ℕ → Option ℕ
odd_at n = if n % 2 == 0 then None else Some n

abbrev pub or_else : Option ℕ → Option ℕ → Option ℕ
or_else (Some at) other = Some at
or_else None other = other

-- Where the text is no hexadecimal text of bytes: the place of its first byte that isn't 0 to 9 or a to f, or else its length
-- where that is odd. `0a1` has its fault at 3, `0A1` at 1.
abbrev pub hex_fault : List ℕ → Option ℕ
hex_fault text = or_else (position is_not_lower_hex text) (odd_at (length text))

-- The bytes of pairs of digits.
abbrev pub hex_bytes : List ℕ → List ℕ
hex_bytes (high ∷ low ∷ rest) = (hex_value high * 16 + hex_value low) ∷ hex_bytes rest
hex_bytes rest = []
