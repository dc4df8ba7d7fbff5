-- What a table of groups is: the tables that the definitions give a list of contributions. Each clause below holds for every list
-- of contributions that the table was fed before.
use Rattle.std.specs.Prelude.{◌≡◌, ◌<◌, ℕ, List, [], ◌++◌, get_or, length, map}
use Rattle.agg_terms.specs.Values.{Tree, Value}
use Rattle.agg_meaning.specs.Views.{AreContributions, Contribution, of_row}
use Rattle.value_types.specs.Folds.{value_of}
use Rattle.value_types.specs.declared.value.Value as rust
use Rattle.state_columns.specs.Trees.{IsColumnOf, trees_in}
use Rattle.state_columns.specs.declared.column.StateColumn.{StateColumn}
use Rattle.group_keys.specs.Sets.{Holds}
use Rattle.table_words.specs.Tables.{IsTable}
use Rattle.group_tables.specs.declared.grouping.GroupCall.{GroupCall}
use Rattle.group_tables.specs.declared.grouping.Grouping.{Grouping}
use Rattle.group_tables.specs.declared.table.GroupTable.{GroupTable}
use Rattle.group_tables.specs.Groupings.{view_of}

-- a column of states for each call
pub record AreColumns (calls : List GroupCall) (columns : List StateColumn) : Type 0 where
  pub many : length columns ≡ length calls
  pub each : (i : ℕ) (call : GroupCall) (column : StateColumn) → i < length calls → IsColumnOf (get_or calls i call).ready (get_or columns i column)

-- the trees of each call, by the places of the groups
abbrev pub trees_of : List StateColumn → ℕ → List Tree
trees_of columns i = get_or (map trees_in columns) i []

-- A table is the tables of these contributions, which are feeds of the calls: it has the different keys in the order of their first
-- appearance, and for each call the state of each key.
pub record AreTables (g : Grouping) (t : GroupTable) (C : List (Contribution (view_of g))) : Type 0 where
  pub feeds : AreContributions (view_of g) C
  pub keys : List (List Value)
  pub held : Holds g.key_types t.keys keys
  pub table : IsTable (view_of g) C keys (trees_of t.columns.items)
  pub shape : AreColumns g.calls t.columns.items

-- a table of some contributions
abbrev pub IsTableOf : Grouping → GroupTable → Type 0
IsTableOf g t = (C : List (Contribution (view_of g))) × AreTables g t C

-- a table with the contributions of some rows behind those it had
pub record TakesRowsOf (g : Grouping) (rows : List (List rust.Value)) (old new : GroupTable) : Type 0 where
  pub tables : (C : List (Contribution (view_of g))) → AreTables g old C → AreTables g new (C ++ map (of_row (view_of g)) (map (map value_of) rows))
