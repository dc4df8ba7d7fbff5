-- What is answered of the places of lines.
use Rattle.std.specs.Prelude.{◌≡◌, ℕ, ◌+◌, ◌≤◌, ◌<◌, List, length, drop, Option, Some, None}
use Rattle.script_text.specs.Lines.{lines_at, rows_behind, rows_in}

-- The place behind so many lines from a place of a text on, or none where there are fewer.
abbrev pub IsBehindRows : List ℕ → ℕ → ℕ → Option ℕ → Type 0
IsBehindRows text at count None = length (lines_at text at) < count
IsBehindRows text at count (Some to) =
    (count ≤ length (lines_at text at)) × (lines_at text to ≡ drop count (lines_at text at))
    × (rows_in text at to count ≡ rows_behind at count (lines_at text at)) × (at + count ≤ to) × (to ≤ length text)
