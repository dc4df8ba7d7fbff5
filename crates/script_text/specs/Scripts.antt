-- What a script is: views over the columns of one table, and sessions of statements.
use Rattle.std.specs.Prelude.{ℕ, Bool, true, false, List, [], ◌∷◌, ◌++◌}
use Rattle.request_rules.specs.Tables.{Column}
use Rattle.script_rules.specs.Views.{View}
use Rattle.script_text.specs.Lines.{Rows}

-- A statement. A view is told by its place among the views, from 0.
pub data Statement : Type 0 where
  Insert : Rows → Statement
  Load : ℕ → Rows → Statement
  Read : ℕ → Statement
  States : ℕ → Statement

-- A script, or what was read of one so far: the columns of its table, its views, and the statements of each session.
pub record Script : Type 0 where
  pub columns : List Column
  pub views : List View
  pub sessions : List (List Statement)

-- whether a list has an item
abbrev pub has_items : {S : Type 0} → List S → Bool
has_items [] = false
has_items (item ∷ items) = true

-- the script of a table alone
abbrev pub of_table : List Column → Script
of_table columns = record { columns = columns; views = []; sessions = [] }

abbrev pub with_view : Script → View → Script
with_view s view = record { columns = s.columns; views = s.views ++ view ∷ []; sessions = s.sessions }

-- one session more, without statements
abbrev pub with_session : Script → Script
with_session s = record { columns = s.columns; views = s.views; sessions = s.sessions ++ [] ∷ [] }

-- an item more at the end of the last list
abbrev pub to_last : {S : Type 0} → S → List (List S) → List (List S)
to_last item [] = []
to_last item (list ∷ []) = (list ++ item ∷ []) ∷ []
to_last item (list ∷ next ∷ lists) = list ∷ to_last item (next ∷ lists)

-- one statement more in the last session
abbrev pub with_statement : Script → Statement → Script
with_statement s statement = record { columns = s.columns; views = s.views; sessions = to_last statement s.sessions }
