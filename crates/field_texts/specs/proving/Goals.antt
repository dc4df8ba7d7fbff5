-- What the goals of the code are in the definitions.
use Rattle.std.specs.Prelude.{Bool, true, false, List, map, reverse, Option, Some, None}
use Rattle.value_types.specs.Folds.{ty_of}
use Rattle.field_texts.specs.Syntax.{FieldForm, form_of, number, string, array, map_of}
use Rattle.field_texts.specs.Machine as machine
use Rattle.field_texts.specs.declared.goal.Goal.{Goal}
use Rattle.field_texts.specs.declared.goal.Goal.TheVariants as code
use Rattle.field_texts.specs.declared.mark.Mark.{Mark}
use Rattle.field_texts.specs.declared.mark.Mark.TheVariants.{LetterN}
use Rattle.field_texts.specs.declared.goal.Look.{Look}
use Rattle.field_texts.specs.declared.goal.Look.TheVariants as look

abbrev pub goal_seen : Goal → machine.Goal
goal_seen (code.Value ty) = machine.value (form_of (ty_of ty.now))
goal_seen (code.First ty) = machine.first (form_of (ty_of ty.now))
goal_seen (code.More ty) = machine.more (form_of (ty_of ty.now))
goal_seen (code.FirstPair key ty) = machine.first_pair (form_of (ty_of key.now)) (form_of (ty_of ty.now))
goal_seen (code.MorePair key ty) = machine.more_pair (form_of (ty_of key.now)) (form_of (ty_of ty.now))
goal_seen code.Between = machine.between
goal_seen code.Digits = machine.digits
goal_seen code.MoreDigits = machine.more_digits
goal_seen code.Quoted = machine.quoted
goal_seen code.Escaped = machine.escaped
goal_seen code.Hexed = machine.hexed
goal_seen code.LetterU = machine.letter_u
goal_seen code.LetterL = machine.letter_l

-- The goals with the next one first.
abbrev pub stack_of : List Goal → List machine.Goal
stack_of goals = map goal_seen (reverse goals)

-- These goals are left, where the text goes on.
abbrev pub goes_to : Bool → List Goal → Option (List machine.Goal)
goes_to true goals = Some (stack_of goals)
goes_to false goals = None

abbrev pub look_shape : Look → FieldForm
look_shape look.Number = number
look_shape look.Text = string
look_shape (look.Array ty) = array (form_of (ty_of ty.now))
look_shape (look.Map key ty) = map_of (form_of (ty_of key.now)) (form_of (ty_of ty.now))

abbrev pub is_letter_n : Mark → Bool
is_letter_n LetterN = true
is_letter_n m = false
