-- Lines judged token by token, with the goals that are still to be met.
use Rattle.std.specs.Prelude.{ℕ, List, [], ◌∷◌, ◌++◌, codes, map, not, Option, Some, None, Bool, true, false, if◌then◌else◌}
use Rattle.std.specs.Str.{bytes_eq}
use Rattle.line_tokens.specs.Tokens.{Token, word, integer, open_bracket, close_bracket, comma}
use Rattle.type_names.specs.declared.goal.Goal.{Goal as TypeGoal}
use Rattle.type_names.specs.declared.goal.Goal.TheVariants.{AnyType}
use Rattle.type_names.specs.Judging as types
use Rattle.type_names.specs.TypeTexts.{is_literal}
use Rattle.type_shapes.specs.Literals.{has_minus}
use Rattle.line_forms.specs.Letters.{Letter}
use Rattle.request_lines.specs.declared.script.LineKind.{LineKind}
use Rattle.request_lines.specs.declared.script.LineKind.TheVariants.{View, Session, Insert, Load, Read, States, Other}

pub data Goal : Type 0 where
  keyword : List ℕ → Goal
  a_name : Goal
  -- further names, each behind a comma, or none
  names : Goal
  in_type : TypeGoal → Goal
  -- further columns
  columns : Goal
  opening : Goal
  closing : Goal
  a_literal : Goal
  -- further literals
  literals : Goal
  call : Goal
  -- behind a call's first bracket, and behind empty brackets
  in_call : Goal
  maybe_arguments : Goal
  -- behind the bracket of arguments
  in_names : Goal
  -- further calls
  calls : Goal
  -- the keys, if there are some
  group : Goal
  a_number : Goal
  a_count : Goal
  a_line : Goal

abbrev pub some_if : Bool → List Goal → Option (List Goal)
some_if true s = Some s
some_if false s = None

-- what is left of a type, and then the other goals
abbrev pub in_types : Option (List TypeGoal) → List Goal → Option (List Goal)
in_types None s = None
in_types (Some goals) s = Some (map in_type goals ++ s)

abbrev pub select_goals : List Goal
select_goals = keyword (codes "SELECT") ∷ call ∷ calls ∷ group ∷ []

abbrev pub table_goals : List Goal
table_goals = keyword (codes "TABLE") ∷ a_name ∷ in_type AnyType ∷ columns ∷ []

-- What the first word of a line of a script says.
abbrev pub line_kind : List ℕ → LineKind
line_kind w = if bytes_eq w (codes "VIEW") then View else (if bytes_eq w (codes "SESSION") then Session else (if bytes_eq w (codes "INSERT") then Insert else
    (if bytes_eq w (codes "LOAD") then Load else (if bytes_eq w (codes "READ") then Read else (if bytes_eq w (codes "STATES") then States else Other)))))

-- What is to come behind it.
abbrev pub line_goals : LineKind → List Goal → Option (List Goal)
line_goals View s = Some (a_name ∷ (select_goals ++ s))
line_goals Session s = Some (a_number ∷ s)
line_goals Insert s = Some (a_count ∷ s)
line_goals Load s = Some (a_name ∷ a_count ∷ s)
line_goals Read s = Some (a_name ∷ s)
line_goals States s = Some (a_name ∷ s)
line_goals Other s = None

-- A token at the goals that are left, the next one first.
abbrev pub step : List Goal → Token → Option (List Goal)
step (keyword k ∷ s) (word w) = some_if (bytes_eq w k) s
step (a_name ∷ s) (word w) = Some s
step (in_type g ∷ s) t = in_types (types.step (g ∷ []) t) s
step (names ∷ s) comma = Some (a_name ∷ names ∷ s)
step (names ∷ s) t = step s t
step (columns ∷ s) comma = Some (a_name ∷ in_type AnyType ∷ columns ∷ s)
step (columns ∷ s) t = step s t
step (opening ∷ s) open_bracket = Some s
step (closing ∷ s) close_bracket = Some s
step (a_literal ∷ s) t = some_if (is_literal t) s
step (literals ∷ s) comma = Some (a_literal ∷ literals ∷ s)
step (literals ∷ s) t = step s t
step (call ∷ s) (word w) = Some (opening ∷ in_call ∷ s)
step (in_call ∷ s) close_bracket = Some (maybe_arguments ∷ s)
step (in_call ∷ s) (word w) = Some (names ∷ closing ∷ s)
step (in_call ∷ s) t = some_if (is_literal t) (literals ∷ closing ∷ opening ∷ in_names ∷ s)
step (maybe_arguments ∷ s) open_bracket = Some (in_names ∷ s)
step (maybe_arguments ∷ s) t = step s t
step (in_names ∷ s) close_bracket = Some s
step (in_names ∷ s) (word w) = Some (names ∷ closing ∷ s)
step (calls ∷ s) comma = Some (call ∷ calls ∷ s)
step (calls ∷ s) t = step s t
step (group ∷ s) (word w) = if bytes_eq w (codes "GROUP") then Some (keyword (codes "BY") ∷ a_name ∷ names ∷ s) else step s (word w)
step (group ∷ s) t = step s t
step (a_number ∷ s) (integer digits) = Some s
step (a_count ∷ s) (integer digits) = some_if (not (has_minus digits)) s
step (a_line ∷ s) (word w) = line_goals (line_kind w) s
step s t = None

-- All is read where no goal is left that wants a token.
abbrev pub done : List Goal → Option (Unit {0})
done [] = Some tt
done (names ∷ s) = done s
done (columns ∷ s) = done s
done (literals ∷ s) = done s
done (maybe_arguments ∷ s) = done s
done (calls ∷ s) = done s
done (group ∷ s) = done s
done (g ∷ s) = None

-- the same for a token with anything beside it
abbrev pub move : {X : Type 0} → List Goal → Token × X → Option (List Goal)
move s l = step s l.0

abbrev pub at_end : ℕ → Option (Unit {0}) → Option ℕ
at_end whole (Some u) = None
at_end whole None = Some whole

-- Where a step stops: at this letter, or further on.
abbrev pub at_step : (List Goal → Option ℕ) → ℕ → Option (List Goal) → Option ℕ
at_step further at None = Some at
at_step further at (Some goals) = further goals

-- The place of the first letter that can't be read, or the line's length where goals are left at its end.
abbrev pub stop : ℕ → List Goal → List Letter → Option ℕ
stop whole s [] = at_end whole (done s)
stop whole s (l ∷ letters) = at_step (λ more. stop whole more letters) l.1 (step s l.0)
