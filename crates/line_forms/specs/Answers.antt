-- What a line spells, and what its reader answers.
use Rattle.std.specs.Prelude.{◌≡◌, ℕ, List, length, Result, Ok, Err}
use Rattle.first_fault.specs.FirstFault.{IsReading}
use Rattle.line_forms.specs.Letters.{Letter, letters_of, place}
use Rattle.line_forms.specs.Tables.{ColumnText, IsTable, Column, AreColumns}
use Rattle.line_forms.specs.Selects.{SelectText, IsSelect, Select, IsSelectOf}
use Rattle.line_forms.specs.ScriptLines.{LineText, IsScriptLine, Line, IsLineOf}
use Rattle.line_forms.specs.Views.{columns_of, select_of, line_of}
use Rattle.line_forms.specs.declared.table.WrittenTable.{WrittenTable}
use Rattle.line_forms.specs.declared.select.WrittenSelect.{WrittenSelect}
use Rattle.line_forms.specs.declared.script_line.WrittenLine.{WrittenLine}
use Rattle.line_forms.specs.declared.fault.LineFault.{LineFault}

-- The line spells a table of these columns.
abbrev pub SpellsTable : List ℕ → List Column → Type 0
SpellsTable line columns = (texts : List ColumnText) × IsTable (letters_of line) texts × AreColumns texts columns

-- The line spells this request.
abbrev pub SpellsSelect : List ℕ → Select → Type 0
SpellsSelect line q = (text : SelectText) × IsSelect (letters_of line) text × IsSelectOf text q

-- The line spells this line of a script.
abbrev pub SpellsLine : List ℕ → Line → Type 0
SpellsLine line form = (text : LineText) × IsScriptLine (letters_of line) text × IsLineOf text form

-- The place of the first token behind the longest front of tokens that begins some line of the grammar, or the line's
-- length where the line ends there; the line itself is none of the grammar.
abbrev pub IsFirstFault : {V : Type 0} → (List Letter → V → Type 0) → List ℕ → ℕ → Type 0
IsFirstFault spells line at = (n : ℕ) × IsReading spells (letters_of line) (Err n) × (at ≡ place (length line) n (letters_of line))

-- A form that the line spells, or the place of its first fault.
abbrev pub IsTableAnswer : List ℕ → Result WrittenTable LineFault → Type 0
IsTableAnswer line (Ok table) = SpellsTable line (columns_of table)
IsTableAnswer line (Err (LineFault.Syntax at)) = IsFirstFault IsTable line at
IsTableAnswer line (Err LineFault.OutOfMemory) = Unit {0}

abbrev pub IsSelectAnswer : List ℕ → Result WrittenSelect LineFault → Type 0
IsSelectAnswer line (Ok q) = SpellsSelect line (select_of q)
IsSelectAnswer line (Err (LineFault.Syntax at)) = IsFirstFault IsSelect line at
IsSelectAnswer line (Err LineFault.OutOfMemory) = Unit {0}

abbrev pub IsLineAnswer : List ℕ → Result WrittenLine LineFault → Type 0
IsLineAnswer line (Ok form) = SpellsLine line (line_of form)
IsLineAnswer line (Err (LineFault.Syntax at)) = IsFirstFault IsScriptLine line at
IsLineAnswer line (Err LineFault.OutOfMemory) = Unit {0}
