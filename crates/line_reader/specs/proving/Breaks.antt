-- What is told of a line that isn't complete within what the input may have.
use Rattle.std.specs.Prelude.{ℕ, List, Option, Some, None}
use Rattle.line_reader.specs.declared.searching.Break.{Break}
use Rattle.line_reader.specs.declared.searching.Break.TheVariants.{TooLong, TooLarge}
use Rattle.line_reader.specs.Limits.{IsBegun, IsTooLong, IsTooLarge}

abbrev pub IsBreak : ℕ → ℕ → List ℕ → Option Break → Type 0
IsBreak most_line room tail (Some TooLong) = IsTooLong most_line room tail
IsBreak most_line room tail (Some TooLarge) = IsTooLarge most_line room tail
IsBreak most_line room tail None = IsBegun most_line room tail
