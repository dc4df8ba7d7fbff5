-- What stands behind a backslash: the byte meant and the text behind it, or the fault of the backslash at this place.
use Rattle.std.specs.Prelude.{ℕ, Bool, ◌+◌, ◌*◌, List, [], ◌∷◌, ◌==◌, ◌&&◌, if◌then◌else◌, Result, Ok, Err}
use Rattle.tsv_text.specs.declared.fault.TextFault.{TextFault}
use Rattle.tsv_text.specs.declared.fault.TextFault.TheVariants.{LoneBackslash, BadHex}
use Rattle.tsv_text.specs.Escapes.{is_hex_digit, hex_value, meaning_of}

abbrev pub behind_x : ℕ → List ℕ → Result (ℕ × List ℕ) TextFault
behind_x at (high ∷ low ∷ rest) = if is_hex_digit high && is_hex_digit low then Ok (hex_value high * 16 + hex_value low, rest) else Err (BadHex at)
behind_x at rest = Err (BadHex at)

abbrev pub behind_backslash : ℕ → List ℕ → Result (ℕ × List ℕ) TextFault
behind_backslash at [] = Err (LoneBackslash at)
behind_backslash at (c ∷ rest) = if c == 120 then behind_x at rest else Ok (meaning_of c, rest)

abbrev pub is_backslash : ℕ → Bool
is_backslash b = b == 92
