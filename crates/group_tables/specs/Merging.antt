-- What a table becomes with the groups of a later table, and with a line of stored states, behind those it had. Each clause holds for
-- every list of contributions that the tables were fed before.
use Rattle.std.specs.Prelude.{◌≡◌, ◌<◌, ℕ, List, [], ◌∷◌, ◌++◌, get_or, length, map}
use Rattle.agg_terms.specs.Trees.{IsTree}
use Rattle.agg_terms.specs.Values.{Empty, Tree, Value}
use Rattle.agg_meaning.specs.Feeds.{AreValues}
use Rattle.agg_meaning.specs.Views.{Call, Contribution, call_at, of_states}
use Rattle.value_types.specs.Folds.{ty_of}
use Rattle.group_tables.specs.declared.grouping.Grouping.{Grouping}
use Rattle.group_tables.specs.declared.table.GroupTable.{GroupTable}
use Rattle.group_tables.specs.Groupings.{view_of}
use Rattle.group_tables.specs.Tables.{AreTables}

-- a table with the contributions of a later one behind those it had
pub record TakesTable (g : Grouping) (later old new : GroupTable) : Type 0 where
  pub tables : (C D : List (Contribution (view_of g))) → AreTables g old C → AreTables g later D → AreTables g new (C ++ D)

-- a state tree for each call
pub record AreTreesOf (calls : List Call) (trees : List Tree) : Type 0 where
  pub many : length trees ≡ length calls
  pub each : (i : ℕ) → i < length calls → IsTree (call_at calls i).chain (call_at calls i).types (get_or trees i Empty)

-- a line of stored states: a value of each key column, and a state tree for each call
pub record IsStoredLine (g : Grouping) (key : List Value) (trees : List Tree) : Type 0 where
  pub fits : AreValues (map ty_of g.key_types) key
  pub states : AreTreesOf (view_of g).calls trees

-- a table with one contribution more: the line's key with, for each call, the feeds that its tree unfolds to
pub record TakesLine (g : Grouping) (key : List Value) (trees : List Tree) (old new : GroupTable) : Type 0 where
  pub tables : (C : List (Contribution (view_of g))) → AreTables g old C → AreTables g new (C ++ of_states (view_of g) (key, trees) ∷ [])
