-- The rules on the views of a script, and which of them is broken first.
use Rattle.std.specs.Prelude.{ℕ, suc, Bool, nat_le, List, length, Option, Some, None, is_none, Result, Ok, Err}
use Rattle.std.specs.List.{position}
use Rattle.std.specs.Str.{bytes_eq}
use Rattle.line_forms.specs.Letters.{Name}
use Rattle.line_forms.specs.Selects as written
use Rattle.refusals.specs.declared.why.LimitName.{LimitName}
use Rattle.refusals.specs.declared.why.Why.{Why}
use Rattle.request_rules.specs.Selects.{Plan, judged_select, within_limits}
use Rattle.request_rules.specs.Tables.{Column}
use Rattle.request_rules.specs.Turns.{and_then, check}

-- a view: its name, and what it asks of the rows of the script's table
pub record View : Type 0 where
  pub name : List ℕ
  pub plan : Plan

-- whether a view has this name
abbrev pub has_name : List ℕ → View → Bool
has_name name v = bytes_eq v.name name

-- the place of the first view of a name among these, counted from 0, if one has it
abbrev pub place_of : List View → List ℕ → Option ℕ
place_of views name = position (has_name name) views

-- Limit: with one more view, a script has at most 16.
abbrev pub has_few_views : List View → Result (Unit {0}) Why
has_few_views before = check (nat_le (suc (length before)) 16) (Why.Limit LimitName.Views)

-- Repeated: no view before has the name.
abbrev pub is_new_view : List View → Name → Result (Unit {0}) Why
is_new_view before name = check (is_none (place_of before name.name)) (Why.Repeated name.at)

-- A view of this name for this request over the table's columns, behind the views that stand before it, or why it is
-- refused: the limits of the request, the number of views, the name, and then the request.
abbrev pub judged_view : List Column → List View → Name → written.Select → Result View Why
judged_view columns before name select =
    and_then (within_limits select) (λ (_ : Unit {0}).
    and_then (has_few_views before) (λ (_ : Unit {0}).
    and_then (is_new_view before name) (λ (_ : Unit {0}).
    and_then (judged_select columns select) (λ (plan : Plan).
    Ok (record { name = name.name; plan = plan })))))

abbrev pub place_or : Option ℕ → Why → Result ℕ Why
place_or (Some place) why = Ok place
place_or None why = Err why

-- Unknown view: the name is a view's, and stands for its place.
abbrev pub known_view : List View → Name → Result ℕ Why
known_view views name = place_or (place_of views name.name) (Why.UnknownView name.at)
