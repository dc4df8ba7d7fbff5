-- What holds of the views and of the sessions of a script that break no rule.
use Rattle.std.specs.Prelude.{◌≡◌, ℕ, ℤ, pos, ◌≤◌, List, [], length, map, Some, slice_get, Result, Ok}
use Rattle.std.specs.List.{range_with_len}
use Rattle.line_forms.specs.Letters.{Name}
use Rattle.line_forms.specs.Selects as written
use Rattle.refusals.specs.declared.why.Why.{Why}
use Rattle.request_rules.specs.Tables.{Column}
use Rattle.request_rules.specs.Turns.{in_turn}
use Rattle.script_rules.specs.Sessions.{judged_session}
use Rattle.script_rules.specs.Views.{View, judged_view, place_of}

-- the line of a view: its name, and a request
abbrev pub ViewLine : Type 0
ViewLine = Name × written.Select

-- The views of a script from top to bottom: what they stand for, or the first that is refused.
abbrev pub judged_views : List Column → List ViewLine → Result (List View) Why
judged_views columns lines = in_turn (λ (before : List View) (line : ViewLine). judged_view columns before line.0 line.1) [] lines

-- Each view is found by its name.
abbrev pub AreFound : List View → Type 0
AreFound views = (place : ℕ) (view : View) → slice_get views place ≡ Some view → place_of views view.name ≡ Some place

-- There are at most 16 views, and each is found by its name.
abbrev pub ViewsAreFound : Type 0
ViewsAreFound = (columns : List Column) (lines : List ViewLine) (views : List View) → judged_views columns lines ≡ Ok views → (length views ≤ 16) × AreFound views

-- the head of a session: the place of its number, and the number
abbrev pub Head : Type 0
Head = ℕ × ℤ

-- The sessions of a script from top to bottom: each as it is accepted, or the first that is refused.
abbrev pub judged_sessions : List Head → Result (List (Unit {0})) Why
judged_sessions heads = in_turn (λ (before : List (Unit {0})) (head : Head). judged_session (length before) head.0 head.1) [] heads

-- the numbers 1, 2 and so on, so many of them
abbrev pub first_numbers : ℕ → List ℤ
first_numbers many = map pos (range_with_len 1 many)

-- There are at most 32 sessions, numbered from 1 on.
abbrev pub SessionsAreNumbered : Type 0
SessionsAreNumbered = (heads : List Head) (judged : List (Unit {0})) → judged_sessions heads ≡ Ok judged →
    (length heads ≤ 32) × (map (λ (head : Head). head.1) heads ≡ first_numbers (length heads))
