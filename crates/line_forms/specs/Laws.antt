-- A line spells one form at most.
use Rattle.std.specs.Prelude.{◌≡◌, ℕ, List}
use Rattle.line_forms.specs.Tables.{Column}
use Rattle.line_forms.specs.Selects.{Select}
use Rattle.line_forms.specs.ScriptLines.{Line}
use Rattle.line_forms.specs.Answers.{SpellsTable, SpellsSelect, SpellsLine}

abbrev pub OneTable : Type 0
OneTable = (line : List ℕ) (one other : List Column) → SpellsTable line one → SpellsTable line other → one ≡ other

abbrev pub OneSelect : Type 0
OneSelect = (line : List ℕ) (one other : Select) → SpellsSelect line one → SpellsSelect line other → one ≡ other

abbrev pub OneLine : Type 0
OneLine = (line : List ℕ) (one other : Line) → SpellsLine line one → SpellsLine line other → one ≡ other
