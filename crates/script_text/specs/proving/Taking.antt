-- What the parts of the reader answer.
use Rattle.std.specs.Prelude.{◌≡◌, ℕ, ◌+◌, ◌≤◌, List, length, drop, Result, Ok, Err}
use Rattle.line_forms.specs.ScriptLines.{Line, View}
use Rattle.refusals.specs.declared.why.RequestFault.{RequestFault}
use Rattle.refusals.specs.declared.why.Why.{Why}
use Rattle.request_rules.specs.Selects.{AreFewCalls}
use Rattle.request_rules.specs.declared.refusal.Refusal.{Refusal}
use Rattle.script_text.specs.Answers.{AreSessions, AreViews, script_of}
use Rattle.script_text.specs.Lines.{lines_at}
use Rattle.script_text.specs.Scripts.{Script}
use Rattle.script_text.specs.Steps.{ComesTo, judged_line, IsLineJudged}
use Rattle.script_text.specs.declared.script.Script as code
use Rattle.script_text.specs.declared.steps.Step.{Step}

-- a line whose calls have fewer than 2^32 parameters and arguments each
abbrev pub IsFewLine : Line → Type 0
IsFewLine (View name select) = AreFewCalls select.calls
IsFewLine line = Unit {0}

-- The second place of the text is behind so many lines that begin at the first.
pub record IsTaken (text : List ℕ) (at to count : ℕ) : Type 0 where
  pub rest : lines_at text to ≡ drop count (lines_at text at)
  pub further : at + count ≤ to
  pub within : to ≤ length text

-- what a step is in the definitions: the script, and how many lines of rows it took
abbrev pub step_of : List ℕ → Step → Script × ℕ
step_of text step = (script_of text step.script, step.rows)

-- the script goes on behind lines of rows that begin at this place
pub record IsStep (text : List ℕ) (at : ℕ) (step : Step) : Type 0 where
  pub views : AreViews step.script.views
  pub sessions : AreSessions text step.script
  pub taken : IsTaken text at step.at step.rows

-- An answer is what a line comes to. Want of memory says nothing.
abbrev pub Steps : List ℕ → ℕ → (Result (Script × ℕ) Why → Type 0) → Result Step Refusal → Type 0
Steps text at judged (Ok step) = judged (Ok (step_of text step)) × IsStep text at step
Steps text at judged (Err (Refusal.Broken why)) = judged (Err why)
Steps text at judged (Err Refusal.OutOfMemory) = Unit {0}

-- what a line of this form comes to
abbrev pub IsAdded : List ℕ → code.Script → ℕ → Line → Result (Script × ℕ) Why → Type 0
IsAdded text s at form judged = judged_line (script_of text s) at (lines_at text at) form ≡ judged

-- what this line comes to, whose end is at this place
abbrev pub IsJudgedAt : List ℕ → code.Script → List ℕ → ℕ → Result (Script × ℕ) Why → Type 0
IsJudgedAt text s line behind judged = IsLineJudged (script_of text s) (record { bytes = line; behind = behind }) (lines_at text behind) judged

-- a script that a line without rows makes
abbrev pub alone : ℕ → Result code.Script Refusal → Result Step Refusal
alone at (Ok s) = Ok (record { script = s; at = at; rows = 0 })
alone at (Err refusal) = Err refusal

-- An answer is what the lines come to from a place on, behind what was read of the script. Want of memory says nothing.
abbrev pub ReadsOn : List ℕ → code.Script → ℕ → Result code.Script RequestFault → Type 0
ReadsOn text s at (Ok whole) = ComesTo (script_of text s) 2 (lines_at text at) (Ok (script_of text whole)) × AreViews whole.views × AreSessions text whole
ReadsOn text s at (Err (RequestFault.Bad line why)) = ComesTo (script_of text s) 2 (lines_at text at) (Err (RequestFault.Bad line why))
ReadsOn text s at (Err RequestFault.OutOfMemory) = Unit {0}
