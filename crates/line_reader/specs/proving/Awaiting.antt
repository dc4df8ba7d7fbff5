-- Bytes that are taken until there is a newline.
use Rattle.std.specs.Prelude.{◌≡◌, ℕ, ◌+◌, ◌≤◌, ◌<◌, true, List, ◌++◌, Option, None, Some, Result, Ok, Err, length, take, slice_index}
use Rattle.std.specs.Io.KnownBytes.{Consumes, IsAtEnd}
use Rattle.tsv_text.specs.Lines.{is_newline}
use Rattle.line_reader.specs.declared.fault.LineFault.{LineFault}
use Rattle.line_reader.specs.declared.fault.LineFault.TheVariants.{Read, TooLong, TooLarge, OutOfMemory}
use Rattle.line_reader.specs.Ahead.{Ahead, behind_line}
use Rattle.line_reader.specs.Limits.{IsBegun, IsTooLong, IsTooLarge, IsUnbroken}

-- the first newline within what the input may have
abbrev pub FindsLine : ℕ → List ℕ → Option ℕ → Type 0
FindsLine room bytes (Some at) = (at < length bytes) × (at < room) × IsUnbroken (take at bytes) × (is_newline (slice_index bytes at) ≡ true)
FindsLine room bytes None = IsUnbroken (take room bytes)

-- what is told of the bytes that are held then
abbrev pub HoldsLine : ℕ → ℕ → Option (List ℕ) → List ℕ → Result (Option ℕ) LineFault → Type 0
HoldsLine most_line room left bytes (Ok (Some at)) = FindsLine room bytes (Some at)
HoldsLine most_line room left bytes (Ok None) = IsAtEnd left × IsBegun most_line room bytes
HoldsLine most_line room left bytes (Err TooLong) = IsTooLong most_line room bytes
HoldsLine most_line room left bytes (Err TooLarge) = IsTooLarge most_line room bytes
HoldsLine most_line room left bytes (Err Read) = IsBegun most_line room bytes
HoldsLine most_line room left bytes (Err OutOfMemory) = Unit {0}

-- Bytes that were taken stand behind those that were held.
pub record AwaitsLine (left now : Option (List ℕ)) (most_line room : ℕ) (before after : List ℕ) (answer : Result (Option ℕ) LineFault) : Type 0 where
  pub taken : List ℕ
  pub behind : after ≡ before ++ taken
  pub consumed : Consumes left now taken
  pub line : length after ≤ most_line + 1
  pub input : length after ≤ room + 1
  pub holds : HoldsLine most_line room now after answer

-- The line at the front of what is held is handed out, or there is no room for it.
abbrev pub TakesLine : ℕ → ℕ → Ahead → Ahead → Result (Option (List ℕ)) LineFault → Type 0
TakesLine len used before after (Ok (Some line)) = (line ≡ take len before.held) × (after ≡ behind_line used before)
TakesLine len used before after (Err OutOfMemory) = after ≡ before
TakesLine len used before after _ = ⊥
