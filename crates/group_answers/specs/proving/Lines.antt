-- The lines of some groups.
use Rattle.std.specs.Prelude.{◌≡◌, ℕ, List, ◌++◌, length, map}
use Rattle.agg_terms.specs.Lists.{places}
use Rattle.agg_terms.specs.Values.{Value}
use Rattle.agg_meaning.specs.Views.{Contribution, View, meaning_at}
use Rattle.answer_texts.specs.Lines.{answer_text}
use Rattle.tsv_values.specs.Writing.{WritesStates}
use Rattle.value_types.specs.Folds.{ty_of}
use Rattle.group_tables.specs.declared.grouping.Grouping.{Grouping}
use Rattle.group_tables.specs.declared.table.GroupTable.{GroupTable}
use Rattle.group_tables.specs.Groupings.{answer_types, view_of}
use Rattle.group_tables.specs.Reading.{key_at}
use Rattle.group_tables.specs.Tables.{AreTables}

-- the values of a group's line: its key, and what each call means in it
abbrev pub values_at : (v : View) → List (Contribution v) → List Value → List Value
values_at v C key = key ++ map (meaning_at v C key) (places 0 (length v.calls))

-- a text with the lines of the groups at these places behind it, whatever contributions the table is the tables of
pub record AddsLines (writes : WritesStates) (g : Grouping) (t : GroupTable) (order : List ℕ) (old new : List ℕ) : Type 0 where
  pub adds : (C : List (Contribution (view_of g))) (a : AreTables g t C) →
      new ≡ old ++ answer_text writes (answer_types (map ty_of g.types) (view_of g)) (map (values_at (view_of g) C) (map (key_at a.keys) order))
