-- What is taken from a source into the room behind bytes.
use Rattle.std.specs.Prelude.{◌≡◌, ℕ, ◌<◌, ◌≤◌, List, ◌++◌, Option, length}
use Rattle.std.specs.Io.KnownBytes.{Consumes, Keeps, IsAtEnd}
use Rattle.agg_ports.specs.declared.ports.Taken.{Taken}
use Rattle.agg_ports.specs.declared.ports.Taken.TheVariants as taken

-- A piece of at least one byte and at most so many moves from the front of what is left behind the bytes. At the end and at a fault the bytes stay.
abbrev pub TakesBehind : Option (List ℕ) → Option (List ℕ) → ℕ → List ℕ → List ℕ → Taken → Type 0
TakesBehind left now most before after (taken.Bytes n) =
    (piece : List ℕ) × (length piece ≡ n) × (0 < n) × (n ≤ most) × (after ≡ before ++ piece) × Consumes left now piece
TakesBehind left now most before after taken.End = (after ≡ before) × Keeps left now × IsAtEnd now
TakesBehind left now most before after taken.Failed = (after ≡ before) × Keeps left now
