-- The lines of a text, each with its place.
use Rattle.std.specs.Prelude.{ℕ, ◌+◌, List, [], ◌∷◌, length, map, min, drop, take, Bool, ◌==◌}
use Rattle.std.specs.List.{list_all, slice_range}
use Rattle.tsv_text.specs.Lines.{lines_of}

-- A line without its newline, and the place in its text that is behind it and its newline, in bytes from 0. Behind a last
-- line without a newline the text ends.
pub record TextLine : Type 0 where
  pub bytes : List ℕ
  pub behind : ℕ

-- the place behind a line that begins at a place of a text of so many bytes
abbrev pub place_behind : ℕ → ℕ → List ℕ → ℕ
place_behind whole at line = min (at + length line + 1) whole

-- Lines one behind the other, the first of which begins at this place of a text of so many bytes.
abbrev pub placed : ℕ → ℕ → List (List ℕ) → List TextLine
placed whole at [] = []
placed whole at (line ∷ lines) =
    record { bytes = line; behind = place_behind whole at line } ∷ placed whole (place_behind whole at line) lines

-- The lines of a text from this place on, at which one of them begins or the text ends.
abbrev pub lines_at : List ℕ → ℕ → List TextLine
lines_at text at = placed (length text) at (lines_of (drop at text))

-- The first of these lines; where there is none, the empty line.
abbrev pub first_of : List TextLine → List ℕ
first_of [] = []
first_of (line ∷ lines) = line.bytes

-- A line that is empty or holds spaces alone.
abbrev pub is_blank : List ℕ → Bool
is_blank line = list_all (λ b. b == 32) line

-- Lines of rows: where in the text the first of them begins, where the last of them and its newline end, how many they
-- are, and the lines themselves. Where there is none, both places are those behind the statement.
pub record Rows : Type 0 where
  pub from : ℕ
  pub to : ℕ
  pub count : ℕ
  pub lines : List (List ℕ)

-- the place behind the last of these lines, or this place where there is none
abbrev pub end_of : ℕ → List TextLine → ℕ
end_of at [] = at
end_of at (line ∷ lines) = end_of line.behind lines

-- The rows of so many lines, where these lines stand behind a place.
abbrev pub rows_behind : ℕ → ℕ → List TextLine → Rows
rows_behind at count lines =
    record { from = at; to = end_of at (take count lines); count = count; lines = map (λ (line : TextLine). line.bytes) (take count lines) }

-- So many lines of rows that stand in a text from a place to a place.
abbrev pub rows_in : List ℕ → ℕ → ℕ → ℕ → Rows
rows_in text from to count = record { from = from; to = to; count = count; lines = lines_of (slice_range text from to) }
