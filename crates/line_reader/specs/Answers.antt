-- What is answered of an input, by one line and by a block of lines.
use Rattle.std.specs.Prelude.{◌≡◌, ℕ, ◌+◌, ◌≤◌, ◌<◌, true, List, [], ◌++◌, Option, Some, None, Result, Ok, Err, length}
use Rattle.std.specs.Io.KnownBytes.{Consumes}
use Rattle.agg_ports.specs.Causes.{Rose}
use Rattle.tsv_text.specs.Lines.{lines_of}
use Rattle.line_reader.specs.declared.fault.LineFault.{LineFault}
use Rattle.line_reader.specs.declared.fault.LineFault.TheVariants.{Read, TooLong, TooLarge, OutOfMemory}
use Rattle.line_reader.specs.declared.stop.Stop.{Stop}
use Rattle.line_reader.specs.declared.stop.Stop.TheVariants as stop
use Rattle.line_reader.specs.Ahead.{Ahead, IsInput}
use Rattle.line_reader.specs.Limits.{next_of, behind_next, IsBegun, IsTooLong, IsTooLarge, IsWithin, ends_line, AreShort}

-- Nothing is handed out: all that was held and all that was taken is held.
pub record IsHeld (before after : Ahead) (input rest : List ℕ) : Type 0 where
  pub taken : List ℕ
  pub behind : after.held ≡ before.held ++ taken
  pub same : rest ≡ input

-- The first line of the input, or why there is none. A fault of reading comes only where what is held has no complete line and breaks no limit.
abbrev pub IsNext : Ahead → Ahead → List ℕ → List ℕ → Result (Option (List ℕ)) LineFault → Type 0
IsNext before after input rest (Ok (Some line)) =
    (0 < length input) × IsWithin before.most_line before.room input × (line ≡ next_of input) × (rest ≡ behind_next input)
    × (after.most_line ≡ before.most_line) × (after.room + length input ≡ before.room + length rest)
IsNext before after input rest (Ok None) = (input ≡ []) × (rest ≡ []) × (after ≡ before)
IsNext before after input rest (Err TooLong) = IsHeld before after input rest × IsTooLong before.most_line before.room input
IsNext before after input rest (Err TooLarge) = IsHeld before after input rest × IsTooLarge before.most_line before.room input
IsNext before after input rest (Err Read) = IsHeld before after input rest × IsBegun before.most_line before.room after.held
IsNext before after input rest (Err OutOfMemory) = IsHeld before after input rest

-- The next line of what a source and a reader have left, and what they have left behind it.
pub record ReadsNext (left now : Option (List ℕ)) (before after : Ahead) (answer : Result (Option (List ℕ)) LineFault) : Type 0 where
  pub input : List ℕ
  pub rest : List ℕ
  pub from : IsInput left before input
  pub to : IsInput now after rest
  pub next : IsNext before after input rest answer

-- why a block ends, told of what follows it
abbrev pub StopsAt : Ahead → List ℕ → List ℕ → Stop → Type 0
StopsAt after block rest stop.More = 0 < length block
StopsAt after block rest stop.End = rest ≡ []
StopsAt after block rest stop.Read = IsBegun after.most_line after.room after.held
StopsAt after block rest stop.TooLong = IsTooLong after.most_line after.room rest
StopsAt after block rest stop.TooLarge = IsTooLarge after.most_line after.room rest

-- a block is whole lines; at the end of the input the last may lack its newline
abbrev pub IsWhole : List ℕ → Stop → Type 0
IsWhole block stop.End = Unit {0}
IsWhole block _ = ends_line block ≡ true

-- A block at the front of what a source and a reader have left: whole lines that break no limit. The block and what is held behind it are
-- what was held and what was taken.
pub record ReadsBlock (left now : Option (List ℕ)) (before after : Ahead) (block : List ℕ) (stops : Stop) : Type 0 where
  pub taken : List ℕ
  pub moved : before.held ++ taken ≡ block ++ after.held
  pub consumed : Consumes left now taken
  pub rest : List ℕ
  pub to : IsInput now after rest
  pub whole : IsWhole block stops
  pub short : AreShort before.most_line (lines_of block)
  pub most_line : after.most_line ≡ before.most_line
  pub room : after.room + length block ≡ before.room
  pub stop : StopsAt after block rest stops

-- The source's count of faults rose where the answer is a fault of reading, and is as before else.
abbrev pub LineCause : {A : Type 0} → ℕ → ℕ → Result A LineFault → Type 0
LineCause before now (Err Read) = (before ≤ now) × Rose before now
LineCause before now _ = now ≡ before
