-- A block that is filled, with the place where its whole lines end.
use Rattle.std.specs.Prelude.{◌≡◌, ℕ, ◌+◌, ◌-◌, ◌≤◌, ◌<◌, true, List, ◌++◌, Option, length, take, drop}
use Rattle.std.specs.Io.KnownBytes.{Consumes, IsAtEnd}
use Rattle.agg_ports.specs.Causes.{Rose}
use Rattle.tsv_text.specs.Lines.{lines_of}
use Rattle.line_reader.specs.declared.stop.Stop.{Stop}
use Rattle.line_reader.specs.declared.stop.Stop.TheVariants as stop
use Rattle.line_reader.specs.Limits.{IsTooLong, IsTooLarge, IsUnbroken, ends_line, AreShort}

-- Up to this place there are whole lines that break no limit, and behind it at most one byte more than each limit allows.
pub record HasCut (most_line room : ℕ) (bytes : List ℕ) (cut : ℕ) : Type 0 where
  pub within : cut ≤ length bytes
  pub whole : ends_line (take cut bytes) ≡ true
  pub short : AreShort most_line (lines_of (take cut bytes))
  pub below : cut ≤ room
  pub line : length bytes ≤ cut + most_line + 1
  pub input : length bytes ≤ room + 1

-- behind the whole lines nothing is broken yet
pub record IsOpen (most_line room : ℕ) (bytes : List ℕ) (cut : ℕ) : Type 0 where
  pub unbroken : IsUnbroken (drop cut bytes)
  pub line : length bytes ≤ cut + most_line
  pub input : length bytes ≤ room

-- the bytes themselves are why no more is taken
abbrev pub StopsHere : ℕ → ℕ → List ℕ → ℕ → Stop → Type 0
StopsHere most_line room bytes cut stop.More = (0 < cut) × IsOpen most_line room bytes cut
StopsHere most_line room bytes cut stop.TooLong = IsTooLong most_line (room - cut) (drop cut bytes)
StopsHere most_line room bytes cut stop.TooLarge = IsTooLarge most_line (room - cut) (drop cut bytes)
StopsHere most_line room bytes cut _ = ⊥

-- why no more was taken
abbrev pub FillStops : ℕ → ℕ → Option (List ℕ) → List ℕ → ℕ → Stop → Type 0
FillStops most_line room left bytes cut stop.End = IsAtEnd left × IsOpen most_line room bytes cut
FillStops most_line room left bytes cut stop.Read = IsOpen most_line room bytes cut
FillStops most_line room left bytes cut stops = StopsHere most_line room bytes cut stops

-- Bytes that were taken stand behind those that were there.
pub record FillsBlock (left now : Option (List ℕ)) (most_line room : ℕ) (before after : List ℕ) (cut : ℕ) (stops : Stop) : Type 0 where
  pub taken : List ℕ
  pub behind : after ≡ before ++ taken
  pub consumed : Consumes left now taken
  pub has_cut : HasCut most_line room after cut
  pub stop : FillStops most_line room now after cut stops

-- The source's count of faults rose where it failed, and is as before else.
abbrev pub FillCause : ℕ → ℕ → Stop → Type 0
FillCause before now stop.Read = (before ≤ now) × Rose before now
FillCause before now _ = now ≡ before

-- Where a block ends: at the end of the input its last line may lack its newline.
abbrev pub block_end : Stop → ℕ → ℕ → ℕ
block_end stop.End cut len = len
block_end _ cut len = cut
