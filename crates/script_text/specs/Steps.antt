-- What the lines of a script come to, one after the other.
use Rattle.std.specs.Prelude.{◌≡◌, ℕ, ℤ, ◌+◌, ◌⊎◌, true, false, nat_le, List, [], ◌∷◌, length, drop, Result, Ok, Err}
use Rattle.line_forms.specs.Letters.{Name}
use Rattle.line_forms.specs.ScriptLines.{Line, View, Session, Insert, Load, Read, States}
use Rattle.line_forms.specs.Selects.{Select}
use Rattle.refusals.specs.declared.why.RequestFault.{RequestFault}
use Rattle.refusals.specs.declared.why.Why.{Why}
use Rattle.request_rules.specs.Tables.{Column}
use Rattle.request_rules.specs.Turns.{and_then, check}
use Rattle.request_text.specs.Lines.{IsJudged, IsTableJudged}
use Rattle.script_rules.specs.Sessions.{judged_session}
use Rattle.script_rules.specs.Views as rules
use Rattle.script_text.specs.Forms.{IsFaultIn, SpellsLineIn}
use Rattle.script_text.specs.Lines.{TextLine, Rows, first_of, is_blank, rows_behind}
use Rattle.script_text.specs.Scripts as script
use Rattle.script_text.specs.Scripts.{Script, has_items, of_table, with_view, with_session, with_statement}

-- Lines: as many lines follow as the statement asks for.
abbrev pub has_rows : ℕ → List TextLine → Result (Unit {0}) Why
has_rows count lines = check (nat_le count (length lines)) Why.Lines

-- the rows of so many lines behind a place
abbrev pub rows_taken : ℕ → ℕ → List TextLine → Result Rows Why
rows_taken at count lines = and_then (has_rows count lines) (λ (_ : Unit {0}). Ok (rows_behind at count lines))

-- the rules on a view, on the head of a session, and on statements, each behind what was read of the script
abbrev pub view_added : Script → Name → Select → Result Script Why
view_added s name select = and_then (rules.judged_view s.columns s.views name select) (λ (view : rules.View). Ok (with_view s view))

abbrev pub session_added : Script → ℕ → ℤ → Result Script Why
session_added s at number = and_then (judged_session (length s.sessions) at number) (λ (_ : Unit {0}). Ok (with_session s))

abbrev pub insert_added : Script → ℕ → List TextLine → ℕ → Result Script Why
insert_added s behind lines count = and_then (rows_taken behind count lines) (λ (rows : Rows). Ok (with_statement s (script.Insert rows)))

abbrev pub load_added : Script → ℕ → List TextLine → Name → ℕ → Result Script Why
load_added s behind lines name count =
    and_then (rules.known_view s.views name) (λ (view : ℕ).
    and_then (rows_taken behind count lines) (λ (rows : Rows).
    Ok (with_statement s (script.Load view rows))))

abbrev pub read_added : Script → Name → Result Script Why
read_added s name = and_then (rules.known_view s.views name) (λ (view : ℕ). Ok (with_statement s (script.Read view)))

abbrev pub states_added : Script → Name → Result Script Why
states_added s name = and_then (rules.known_view s.views name) (λ (view : ℕ). Ok (with_statement s (script.States view)))

-- The script with what a line adds to it, or the first rule that the line breaks, where these lines stand behind it and
-- its end is at this place.
abbrev pub line_added : Script → ℕ → List TextLine → Line → Result Script Why
line_added s behind lines (View name select) = view_added s name select
line_added s behind lines (Session at number) = session_added s at number
line_added s behind lines (Insert count) = insert_added s behind lines count
line_added s behind lines (Load name count) = load_added s behind lines name count
line_added s behind lines (Read name) = read_added s name
line_added s behind lines (States name) = states_added s name

-- how many lines of rows stand behind a line
abbrev pub row_count : Line → ℕ
row_count (Insert count) = count
row_count (Load name count) = count
row_count line = 0

-- what a line of this form comes to: the script with what it adds, and how many lines of rows it takes
abbrev pub judged_line : Script → ℕ → List TextLine → Line → Result (Script × ℕ) Why
judged_line s behind lines form = and_then (line_added s behind lines form) (λ (next : Script). Ok (next, row_count form))

-- A line that is empty or holds spaces alone adds nothing. Any other line is refused where it is none that may stand there,
-- with the place of its first fault, or comes to what the rules say of it.
abbrev pub IsLineJudged : Script → TextLine → List TextLine → Result (Script × ℕ) Why → Type 0
IsLineJudged s line lines judged =
    ((is_blank line.bytes ≡ true) × (judged ≡ Ok (s, 0)))
    ⊎ ((is_blank line.bytes ≡ false)
    × IsJudged (IsFaultIn (has_items s.sessions) line.bytes) (SpellsLineIn (has_items s.sessions) line.bytes) (judged_line s line.behind lines) judged)

-- What lines come to, the first of which has this number, behind what was read of the script: the script with what they
-- add, or the number of the first line that is refused, and why. A line takes its lines of rows with it.
pub data ComesTo : Script → ℕ → List TextLine → Result Script RequestFault → Type 0 where
  ended : {s : Script} {number : ℕ} → ComesTo s number [] (Ok s)
  refused : {s : Script} {number : ℕ} {line : TextLine} {lines : List TextLine} {why : Why}
      → IsLineJudged s line lines (Err why) → ComesTo s number (line ∷ lines) (Err (RequestFault.Bad number why))
  goes_on : {s next : Script} {number : ℕ} {line : TextLine} {lines : List TextLine} {result : Result Script RequestFault} (rows : ℕ)
      → IsLineJudged s line lines (Ok (next, rows)) → ComesTo next (number + 1 + rows) (drop rows lines) result → ComesTo s number (line ∷ lines) result

-- What all lines of a text come to. Line 1 is the table; where there is no line, an empty one is judged in its place.
abbrev pub IsScriptOf : List TextLine → Result Script RequestFault → Type 0
IsScriptOf lines result =
    ((why : Why) × IsTableJudged (first_of lines) (Err why) × (result ≡ Err (RequestFault.Bad 1 why)))
    ⊎ ((columns : List Column) × IsTableJudged (first_of lines) (Ok columns) × ComesTo (of_table columns) 2 (drop 1 lines) result)
