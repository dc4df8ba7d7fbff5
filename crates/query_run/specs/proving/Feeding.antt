-- What is fed to a table of groups.
use Rattle.std.specs.Prelude.{◌≡◌, ℕ, ◌+◌, Bool, List, ◌++◌, map, Option, Result, Ok, Err, OnOk, length}
use Rattle.agg_meaning.specs.Views.{Contribution, of_row}
use Rattle.batch_reader.specs.Reading.{ReadsRows}
use Rattle.batch_reader.specs.Streaming.{Coming, HasRead, LeadsTo}
use Rattle.batch_reader.specs.declared.fault.RowFault.{RowFault}
use Rattle.group_tables.specs.Groupings.{view_of}
use Rattle.group_tables.specs.Tables.{AreTables, TakesRowsOf}
use Rattle.group_tables.specs.declared.grouping.Grouping.{Grouping}
use Rattle.group_tables.specs.declared.table.GroupTable.{GroupTable}
use Rattle.line_reader.specs.Ahead.{Ahead}
use Rattle.quick_rows.specs.Keeping.{kept}
use Rattle.scalar_texts.specs.States.{ReadsStates}
use Rattle.value_types.specs.Folds.{value_of}
use Rattle.value_types.specs.declared.ty.Ty.{Ty}
use Rattle.value_types.specs.declared.value.Value.{Value}

-- what rows contribute, of which a table has the kept values
abbrev pub contributed : (g : Grouping) → List Bool → List (List Value) → List (Contribution (view_of g))
contributed g keep rows = map (of_row (view_of g)) (map (map value_of) (map (kept keep) rows))

-- The next rows were fed, and they lead on whatever was read before.
pub record FeedsMore (reads : ReadsStates) (left now : Option (List ℕ)) (before after : Coming) (g : Grouping) (old new : GroupTable) (answer : Result Bool RowFault) : Type 0 where
  pub more : List (List Value)
  pub fed : OnOk answer (TakesRowsOf g (map (kept before.keep) more) old new)
  pub next : OnOk answer (after.next ≡ before.next + length more)
  pub leads : (start : Option (List ℕ)) (first : Ahead) (rows : List (List Value)) → before.next ≡ length rows + 1
      → HasRead reads before.types start left first before.ahead rows → LeadsTo reads before.types start now first after.ahead (rows ++ more) answer

-- All rows of the input were fed, and the table is that of them; or the first thing that is wrong with it.
abbrev pub FeedsAll : ReadsStates → List Ty → List Bool → Option (List ℕ) → Option (List ℕ) → Ahead → Grouping → GroupTable → Result (Unit {0}) RowFault → Type 0
FeedsAll reads types keep left now ahead g table (Ok done) =
    (rows : List (List Value)) × ReadsRows reads types left now ahead (Ok (record { types = types; rows = rows })) × AreTables g table (contributed g keep rows)
FeedsAll reads types keep left now ahead g table (Err fault) = ReadsRows reads types left now ahead (Err fault)
