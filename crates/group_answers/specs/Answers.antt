-- The text of a table's answer.
use Rattle.std.specs.Prelude.{◌≡◌, ℕ, List, ◌++◌, map}
use Rattle.agg_meaning.specs.Views.{Contribution, answer}
use Rattle.answer_texts.specs.Lines.{answer_text, with_results}
use Rattle.tsv_values.specs.Writing.{WritesStates}
use Rattle.value_types.specs.Folds.{ty_of}
use Rattle.group_tables.specs.declared.grouping.Grouping.{Grouping}
use Rattle.group_tables.specs.declared.table.GroupTable.{GroupTable}
use Rattle.group_tables.specs.Groupings.{answer_types, view_of}
use Rattle.group_tables.specs.Tables.{AreTables}

-- A text with the lines of the answer behind it, whatever contributions the table is the tables of.
pub record AddsAnswer (writes : WritesStates) (g : Grouping) (t : GroupTable) (old new : List ℕ) : Type 0 where
  pub adds : (C : List (Contribution (view_of g))) → AreTables g t C →
      new ≡ old ++ answer_text writes (answer_types (map ty_of g.types) (view_of g)) (map with_results (answer (view_of g) C))
