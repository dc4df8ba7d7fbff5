-- The lines that may stand at a place of a script, behind its table and apart from lines of rows.
use Rattle.std.specs.Prelude.{◌≡◌, ℕ, Bool, true, false, not, ◌||◌, List, [], ◌∷◌, codes, Option, Some, None, Result, Ok, Err, if◌then◌else◌}
use Rattle.std.specs.Str.{bytes_eq}
use Rattle.line_forms.specs.Answers.{IsFirstFault}
use Rattle.line_forms.specs.Letters.{Letter, letters_of}
use Rattle.line_forms.specs.ScriptLines.{LineText, view, session, insert, load, read, states, IsScriptLine, Line, IsLineOf}
use Rattle.line_forms.specs.Views.{line_of}
use Rattle.line_tokens.specs.Tokens.{Token, word}
use Rattle.line_forms.specs.declared.fault.LineFault.{LineFault}
use Rattle.line_forms.specs.declared.script_line.WrittenLine.{WrittenLine}

-- Whether a line may stand where a session has begun, or where none has: a view stands before the first session, and a
-- statement behind the head of one.
abbrev pub may_stand : Bool → LineText → Bool
may_stand started (view name q) = not started
may_stand started (session at number) = true
may_stand started (insert count) = started
may_stand started (load name count) = started
may_stand started (read name) = started
may_stand started (states name) = started

-- The letters are those of a line that may stand there.
abbrev pub IsLineIn : Bool → List Letter → LineText → Type 0
IsLineIn started letters text = (may_stand started text ≡ true) × IsScriptLine letters text

-- The line spells such a line.
abbrev pub SpellsLineIn : Bool → List ℕ → Line → Type 0
SpellsLineIn started line form = (text : LineText) × IsLineIn started (letters_of line) text × IsLineOf text form

-- The place of the first token that goes on with no line that may stand there. A line out of its place has it at its
-- first token, whatever follows.
abbrev pub IsFaultIn : Bool → List ℕ → ℕ → Type 0
IsFaultIn started line at = IsFirstFault (IsLineIn started) line at

-- What the reader of such a line answers: what the line spells, or the place of that token.
abbrev pub IsFormIn : Bool → List ℕ → Result WrittenLine LineFault → Type 0
IsFormIn started line (Ok form) = SpellsLineIn started line (line_of form)
IsFormIn started line (Err (LineFault.Syntax at)) = IsFaultIn started line at
IsFormIn started line (Err LineFault.OutOfMemory) = Unit {0}

-- Whether a keyword begins a line that may not stand there.
abbrev pub is_misplaced : Bool → List ℕ → Bool
is_misplaced true w = bytes_eq w (codes "VIEW")
is_misplaced false w = bytes_eq w (codes "INSERT") || bytes_eq w (codes "LOAD") || bytes_eq w (codes "READ") || bytes_eq w (codes "STATES")

abbrev pub misplaced_at : Bool → Token → ℕ → Option ℕ
misplaced_at started (word w) at = if is_misplaced started w then Some at else None
misplaced_at started t at = None

-- The place of the first of these letters where it is such a keyword.
abbrev pub misplaced : Bool → List Letter → Option ℕ
misplaced started [] = None
misplaced started (l ∷ letters) = misplaced_at started l.0 l.1
