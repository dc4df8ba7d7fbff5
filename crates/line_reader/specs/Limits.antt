-- Whole lines, the next line, and when it breaks a limit.
use Rattle.std.specs.Prelude.{◌≡◌, ℕ, ◌+◌, ◌≤◌, ◌<◌, ◌⊎◌, Bool, true, false, List, [], ◌∷◌, length, min}
use Rattle.std.specs.List.{before_first, after_first}
use Rattle.tsv_text.specs.Lines.{is_newline}

-- the first line of bytes, without its newline, and what follows it
abbrev pub next_of : List ℕ → List ℕ
next_of bytes = before_first is_newline bytes

abbrev pub behind_next : List ℕ → List ℕ
behind_next bytes = after_first is_newline bytes

-- how many bytes come until the first line is complete, its newline among them
abbrev pub bytes_to_end : List ℕ → ℕ
bytes_to_end bytes = min (length (next_of bytes) + 1) (length bytes)

-- The first line has more bytes than a line may have, and the input may have so many.
abbrev pub IsTooLong : ℕ → ℕ → List ℕ → Type 0
IsTooLong most_line room bytes = (most_line < length (next_of bytes)) × (most_line ≤ room)

-- The first line isn't complete within the bytes that the input may have, and isn't too long before that.
abbrev pub IsTooLarge : ℕ → ℕ → List ℕ → Type 0
IsTooLarge most_line room bytes =
    (room < bytes_to_end bytes) × ((length (next_of bytes) ≤ most_line) ⊎ (room < most_line))

-- The first line breaks no limit.
abbrev pub IsWithin : ℕ → ℕ → List ℕ → Type 0
IsWithin most_line room bytes = (length (next_of bytes) ≤ most_line) × (bytes_to_end bytes ≤ room)

-- there is no newline in the bytes
abbrev pub IsUnbroken : List ℕ → Type 0
IsUnbroken [] = Unit {0}
IsUnbroken (b ∷ bs) = (is_newline b ≡ false) × IsUnbroken bs

-- The bytes are no complete line, and break no limit.
pub record IsBegun (most_line room : ℕ) (bytes : List ℕ) : Type 0 where
  pub unbroken : IsUnbroken bytes
  pub line : length bytes ≤ most_line
  pub input : length bytes ≤ room

-- no bytes, or the last of them is a newline
abbrev pub ends_line : List ℕ → Bool
ends_line [] = true
ends_line (b ∷ []) = is_newline b
ends_line (b ∷ c ∷ bs) = ends_line (c ∷ bs)

-- no line has more bytes than so many
abbrev pub AreShort : ℕ → List (List ℕ) → Type 0
AreShort most_line [] = Unit {0}
AreShort most_line (line ∷ lines) = (length line ≤ most_line) × AreShort most_line lines
