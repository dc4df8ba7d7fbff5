-- Digits at the front of a text, and the bytes that they write.
use Rattle.std.specs.Prelude.{◌≡◌, ℕ, ◌+◌, ◌*◌, true, List, [], ◌∷◌, ◌++◌}
use Rattle.tsv_text.specs.Escapes.{hex_value}
use Rattle.scalar_texts.specs.Hex.{is_lower_hex}

-- the byte that two lower-case digits write
abbrev pub IsPair : ℕ → ℕ → ℕ → Type 0
IsPair high low byte = (is_lower_hex high ≡ true) × (is_lower_hex low ≡ true) × (byte ≡ hex_value high * 16 + hex_value low)

-- each two digits write one byte
abbrev pub Writes : List ℕ → List ℕ → Type 0
Writes [] [] = Unit {0}
Writes (high ∷ low ∷ digits) (byte ∷ bytes) = IsPair high low byte × Writes digits bytes
Writes _ _ = ⊥

-- the bytes that a front of a text writes, and what stands behind it
abbrev pub IsHexFront : List ℕ → List ℕ → List ℕ → Type 0
IsHexFront text bytes left = (digits : List ℕ) × (text ≡ digits ++ left) × Writes digits bytes
