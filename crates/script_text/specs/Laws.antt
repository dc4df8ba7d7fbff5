-- The text of a script comes to one thing alone, and its views are found by their names.
use Rattle.std.specs.Prelude.{◌≡◌, ◌≤◌, ℕ, List, length, Result, Ok, Err}
use Rattle.refusals.specs.declared.why.RequestFault.{RequestFault}
use Rattle.script_rules.specs.Laws.{AreFound}
use Rattle.script_text.specs.Answers.{IsScriptAnswer, script_of}
use Rattle.script_text.specs.Lines.{TextLine}
use Rattle.script_text.specs.Scripts.{Script}
use Rattle.script_text.specs.Steps.{IsScriptOf}
use Rattle.script_text.specs.declared.script.Script as code

-- Lines make one script, or have one first refusal.
abbrev pub OneScript : Type 0
OneScript = (lines : List TextLine) (one other : Result Script RequestFault) → IsScriptOf lines one → IsScriptOf lines other → one ≡ other

-- Two answers are one, unless memory ran out: scripts of the same columns, views and statements, or the same refusal.
abbrev pub IsSameScript : List ℕ → Result code.Script RequestFault → Result code.Script RequestFault → Type 0
IsSameScript text (Ok one) (Ok other) = script_of text one ≡ script_of text other
IsSameScript text (Err RequestFault.OutOfMemory) other = Unit {0}
IsSameScript text one (Err RequestFault.OutOfMemory) = Unit {0}
IsSameScript text (Err one) (Err other) = one ≡ other
IsSameScript text one other = ⊥

-- A text has one answer.
abbrev pub OneAnswer : Type 0
OneAnswer = (text : List ℕ) (one other : Result code.Script RequestFault) → IsScriptAnswer text one → IsScriptAnswer text other → IsSameScript text one other

-- Lines that make a script make at most 16 views, each of which is found by its name, at its own place.
abbrev pub ViewsOfLinesAreFound : Type 0
ViewsOfLinesAreFound = (lines : List TextLine) (s : Script) → IsScriptOf lines (Ok s) → (length s.views ≤ 16) × AreFound s.views
