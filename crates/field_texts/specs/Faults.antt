-- What the judge of a field answers.
use Rattle.std.specs.Prelude.{ℕ, List, Option, Some, None, Ok, Err}
use Rattle.first_fault.specs.FirstFault.{IsReading}
use Rattle.field_texts.specs.Syntax.{FieldForm, IsField}

-- The text is a field of the shape, or this is the length of its longest front that begins some field of the shape.
-- `[1, 2` as an array of numbers: 5; `[1 2]`: 3; `['a\x4g']` as an array of strings: 6.
abbrev pub IsFieldFault : FieldForm → List ℕ → Option ℕ → Type 0
IsFieldFault shape text None = IsReading (IsField shape) text (Ok tt)
IsFieldFault shape text (Some at) = IsReading (IsField shape) text (Err at)
