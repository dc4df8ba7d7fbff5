-- What is read from a table: the places of its groups in the order of the answer, and the line of each.
use Rattle.std.specs.Prelude.{◌≡◌, ◌<◌, ℕ, List, [], ◌++◌, get_or, length, map}
use Rattle.agg_terms.specs.Lists.{Each, places}
use Rattle.agg_terms.specs.Values.{Value}
use Rattle.agg_meaning.specs.Views.{Contribution, groups, meaning_at}
use Rattle.group_tables.specs.declared.grouping.Grouping.{Grouping}
use Rattle.group_tables.specs.declared.table.GroupTable.{GroupTable}
use Rattle.group_tables.specs.Groupings.{view_of}
use Rattle.group_tables.specs.Tables.{AreTables}

-- the key at a place
abbrev pub key_at : List (List Value) → ℕ → List Value
key_at keys place = get_or keys place []

-- the place of a group
pub record IsPlaced (g : Grouping) (t : GroupTable) (place : ℕ) : Type 0 where
  pub within : (C : List (Contribution (view_of g))) (a : AreTables g t C) → place < length a.keys

-- The places of the groups in the order of the answer: ascending keys, NULL first.
pub record AreInOrder (g : Grouping) (t : GroupTable) (order : List ℕ) : Type 0 where
  pub groups_are : (C : List (Contribution (view_of g))) (a : AreTables g t C) → map (key_at a.keys) order ≡ groups (view_of g) C
  pub placed : Each (IsPlaced g t) order

-- a line of the answer: the key of the group at a place, and what each call means in the group
pub record IsLineOf (g : Grouping) (t : GroupTable) (place : ℕ) (values : List Value) : Type 0 where
  pub means : (C : List (Contribution (view_of g))) (a : AreTables g t C) →
      values ≡ key_at a.keys place ++ map (meaning_at (view_of g) C (key_at a.keys place)) (places 0 (length (view_of g).calls))
