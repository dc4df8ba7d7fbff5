-- What is left of a line, as its letters.
use Rattle.std.specs.Prelude.{◌≡◌, ◌≤◌, List, length}
use Rattle.line_forms.specs.Letters.{Letter, letters_in}
use Rattle.request_lines.specs.declared.rest.Rest.{Rest}

abbrev pub letters_left : Rest → List Letter
letters_left rest = letters_in rest.whole rest.text.now

-- Something of the same line, not before it.
pub record IsFurther (rest left : Rest) : Type 0 where
  pub whole : left.whole ≡ rest.whole
  pub within : length left.text.now ≤ length rest.text.now
