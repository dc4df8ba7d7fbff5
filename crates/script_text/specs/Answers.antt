-- What the reader of a script answers.
use Rattle.std.specs.Prelude.{◌≡◌, ℕ, ◌≤◌, ◌<◌, List, length, map, Result, Ok, Err}
use Rattle.std.specs.List.{slice_range}
use Rattle.agg_defs.specs.Plans.{PlanFits}
use Rattle.agg_defs.specs.declared.views.View.{View}
use Rattle.agg_defs.specs.declared.views.Views.{Views}
use Rattle.line_forms.specs.Letters.{Every}
use Rattle.refusals.specs.declared.why.RequestFault.{RequestFault}
use Rattle.request_rules.specs.Tables.{AreLegal}
use Rattle.request_rules.specs.Views.{schema_of}
use Rattle.script_rules.specs.Folds.{views_of}
use Rattle.tsv_text.specs.Lines.{lines_of}
use Rattle.script_text.specs.Lines.{Rows, lines_at, rows_in}
use Rattle.script_text.specs.Scripts.{Statement, Insert, Load, Read, States, Script}
use Rattle.script_text.specs.Steps.{IsScriptOf}
use Rattle.script_text.specs.declared.script.Lines as code_lines
use Rattle.script_text.specs.declared.script.Statement as code_statement
use Rattle.script_text.specs.declared.script.Statement.TheVariants as code
use Rattle.script_text.specs.declared.script.Session.{Session}
use Rattle.script_text.specs.declared.script.Script as code_script

-- What a script of the code is in the definitions, over the text that it was read from.
abbrev pub rows_of : List ℕ → code_lines.Lines → Rows
rows_of text lines = rows_in text lines.from lines.to lines.count

abbrev pub statement_of : List ℕ → code_statement.Statement → Statement
statement_of text (code.Insert lines) = Insert (rows_of text lines)
statement_of text (code.Load view lines) = Load view (rows_of text lines)
statement_of text (code.Read view) = Read view
statement_of text (code.States view) = States view

abbrev pub statements_of : List ℕ → Session → List Statement
statements_of text session = map (statement_of text) session.statements

abbrev pub script_of : List ℕ → code_script.Script → Script
script_of text s = record { columns = schema_of s.views.schema; views = views_of s.views.list; sessions = map (statements_of text) s.sessions }

-- The script that the lines of the text make, or the first line that is refused, and why. Want of memory says nothing.
abbrev pub IsScriptAnswer : List ℕ → Result code_script.Script RequestFault → Type 0
IsScriptAnswer text (Ok s) = IsScriptOf (lines_at text 0) (Ok (script_of text s))
IsScriptAnswer text (Err (RequestFault.Bad line why)) = IsScriptOf (lines_at text 0) (Err (RequestFault.Bad line why))
IsScriptAnswer text (Err RequestFault.OutOfMemory) = Unit {0}

-- A table of at most 64 columns with legal types, and at most 16 views of it, whose plans agree with the table.
pub record AreViews (views : Views) : Type 0 where
  pub few_columns : length views.schema.columns ≤ 64
  pub legal : AreLegal (schema_of views.schema)
  pub few_views : length views.list ≤ 16
  pub fit : Every (λ (view : View). PlanFits views.schema view.plan) views.list

-- The places are in the text, one not before the other, and between them are as many lines as are counted.
abbrev pub AreWithin : List ℕ → code_lines.Lines → Type 0
AreWithin text lines =
    (lines.from ≤ lines.to) × (lines.to ≤ length text) × (length (lines_of (slice_range text lines.from lines.to)) ≡ lines.count)

-- A statement over so many views, whose lines stand within the text.
abbrev pub IsStatement : List ℕ → ℕ → code_statement.Statement → Type 0
IsStatement text views (code.Insert lines) = AreWithin text lines
IsStatement text views (code.Load view lines) = (view < views) × AreWithin text lines
IsStatement text views (code.Read view) = view < views
IsStatement text views (code.States view) = view < views

-- At most 32 sessions of such statements.
pub record AreSessions (text : List ℕ) (s : code_script.Script) : Type 0 where
  pub few : length s.sessions ≤ 32
  pub statements : Every (λ (session : Session). Every (IsStatement text (length s.views.list)) session.statements) s.sessions
