-- The escapes of a field, both ways (manual: "TabSeparated").
use Rattle.std.specs.Prelude.{◌≡◌, ℕ, ◌+◌, ◌-◌, ◌*◌, List, [], ◌∷◌, ◌++◌, length, Bool, true, false, nat_le, ◌==◌, ◌&&◌, ◌||◌, if◌then◌else◌, Result, Ok, Err}
use Rattle.std.specs.List.{flat_map}
use Rattle.tsv_text.specs.declared.fault.TextFault.{TextFault}
use Rattle.tsv_text.specs.declared.fault.TextFault.TheVariants.{LoneBackslash, BadHex, OutOfMemory}

-- A hexadecimal digit of either case.
abbrev pub is_hex_digit : ℕ → Bool
is_hex_digit b = (nat_le 48 b && nat_le b 57) || (nat_le 97 b && nat_le b 102) || (nat_le 65 b && nat_le b 70)

-- What a hexadecimal digit is worth.
abbrev pub hex_value : ℕ → ℕ
hex_value b = if nat_le b 57 then b - 48 else (if nat_le b 70 then b - 55 else b - 87)

-- The byte that a backslash and this letter stand for: `\b \f \r \n \t \0 \a \v`, and any other letter is itself.
abbrev pub meaning_of : ℕ → ℕ
meaning_of c = if c == 98 then 8 else (if c == 102 then 12 else (if c == 114 then 13 else (if c == 110 then 10 else (if c == 116 then 9 else (if c == 48 then 0 else (if c == 97 then 7 else (if c == 118 then 11 else c)))))))

-- A field is made of pieces: a byte that stands for itself, a backslash and a letter, or `\x` and two hexadecimal digits.
pub data Piece : Type 0 where
  plain : ℕ → Piece
  letter : ℕ → Piece
  hexed : ℕ → ℕ → Piece

-- How a piece is written.
abbrev pub piece_text : Piece → List ℕ
piece_text (plain b) = b ∷ []
piece_text (letter c) = 92 ∷ c ∷ []
piece_text (hexed high low) = 92 ∷ 120 ∷ high ∷ low ∷ []

-- The byte that a piece stands for.
abbrev pub piece_byte : Piece → ℕ
piece_byte (plain b) = b
piece_byte (letter c) = meaning_of c
piece_byte (hexed high low) = hex_value high * 16 + hex_value low

-- A backslash doesn't stand for itself, `\x` isn't a letter's escape, and the digits are hexadecimal.
abbrev pub IsPiece : Piece → Type 0
IsPiece (plain b) = (b == 92) ≡ false
IsPiece (letter c) = (c == 120) ≡ false
IsPiece (hexed high low) = (is_hex_digit high && is_hex_digit low) ≡ true

abbrev pub ArePieces : List Piece → Type 0
ArePieces [] = Unit {0}
ArePieces (p ∷ ps) = IsPiece p × ArePieces ps

-- The text of the pieces, and behind it this text.
abbrev pub pieces_then : List Piece → List ℕ → List ℕ
pieces_then [] rest = rest
pieces_then (p ∷ ps) rest = piece_text p ++ pieces_then ps rest

-- The bytes that the pieces stand for.
abbrev pub pieces_bytes : List Piece → List ℕ
pieces_bytes [] = []
pieces_bytes (p ∷ ps) = piece_byte p ∷ pieces_bytes ps

abbrev pub begins_with_hex : List ℕ → Bool
begins_with_hex (high ∷ low ∷ rest) = is_hex_digit high && is_hex_digit low
begins_with_hex rest = false

-- What a field stands for: it is made of pieces all through, or of pieces up to the backslash of its first fault.
-- `a\` ends behind a backslash at 1; `a\x4g` has no two hexadecimal digits behind the `\x` at 1.
abbrev pub IsUnescaped : List ℕ → Result (List ℕ) TextFault → Type 0
IsUnescaped text (Ok bytes) = (ps : List Piece) × ArePieces ps × (text ≡ pieces_then ps []) × (bytes ≡ pieces_bytes ps)
IsUnescaped text (Err (LoneBackslash at)) = (ps : List Piece) × ArePieces ps × (text ≡ pieces_then ps (92 ∷ [])) × (at + 1 ≡ length text)
IsUnescaped text (Err (BadHex at)) = (ps : List Piece) × (rest : List ℕ) × ArePieces ps × (text ≡ pieces_then ps (92 ∷ 120 ∷ rest)) × (begins_with_hex rest ≡ false) × (at + 2 + length rest ≡ length text)
IsUnescaped text (Err OutOfMemory) = Unit {0}

-- An answer with its value seen as something else.
abbrev pub seen : {X Y : Type 0} → (X → Y) → Result X TextFault → Result Y TextFault
seen view (Ok x) = Ok (view x)
seen view (Err fault) = Err fault

-- Two answers are one, unless memory ran out.
abbrev pub IsSameUnescaped : Result (List ℕ) TextFault → Result (List ℕ) TextFault → Type 0
IsSameUnescaped (Err OutOfMemory) other = Unit {0}
IsSameUnescaped one (Err OutOfMemory) = Unit {0}
IsSameUnescaped one other = one ≡ other

-- The letter that is written behind a backslash for a byte, or 0 for a byte that is written as itself.
abbrev pub letter_of : ℕ → ℕ
letter_of b = if b == 8 then 98 else (if b == 12 then 102 else (if b == 13 then 114 else (if b == 10 then 110 else (if b == 9 then 116 else (if b == 0 then 48 else (if b == 39 then 39 else (if b == 92 then 92 else 0)))))))

abbrev pub is_escaped : ℕ → Bool
is_escaped b = b == 8 || b == 12 || b == 13 || b == 10 || b == 9 || b == 0 || b == 39 || b == 92

abbrev pub escaped_byte : ℕ → List ℕ
escaped_byte b = if is_escaped b then 92 ∷ letter_of b ∷ [] else b ∷ []

-- How bytes are written in a field.
abbrev pub escaped : List ℕ → List ℕ
escaped bytes = flat_map escaped_byte bytes
