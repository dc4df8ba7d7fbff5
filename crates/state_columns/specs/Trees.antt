-- What a column of states holds: the tree of each group's state, and what these trees take. Nothing here says how the states are kept.
use Rattle.std.specs.Prelude.{◌≡◌, ◌<◌, ℕ, List, [], length, map, get_or}
use Rattle.agg_terms.specs.Lists.{Each}
use Rattle.agg_terms.specs.Values.{Empty, Tree, Value}
use Rattle.agg_meaning.specs.Feeds.{opened}
use Rattle.agg_meaning.specs.States.{TakesFeeds}
use Rattle.agg_meaning.specs.Suffixes.{normal}
use Rattle.chain_states.specs.Calls.{IsStateOf, chain_in, tree_in, types_in}
use Rattle.chain_states.specs.Ready.{Call}
use Rattle.table_words.specs.KeyLists.{reaching}
use Rattle.table_words.specs.Laws.{JoinsAll}
use Rattle.state_columns.specs.declared.column.StateColumn.{StateColumn}

-- the trees, by the places of the groups
abbrev pub trees_in : StateColumn → List Tree
trees_in c = map tree_in c.states.items

-- a column of a call's states: callers carry it, and don't open it
abbrev pub IsColumnOf : Call → StateColumn → Type 0
IsColumnOf k c = Each (IsStateOf k) c.states.items

-- the tree of no rows
abbrev pub blank_in : Call → Tree
blank_in k = normal (chain_in k) (types_in k) []

-- as many trees as before, each with the rows of its place behind those that it stood for
pub record TakeAt (k : Call) (ps : List ℕ) (rs : List (List Value)) (ss vv : List Tree) : Type 0 where
  pub long : length vv ≡ length ss
  pub at : (g : ℕ) → g < length ss →
      TakesFeeds (chain_in k) (types_in k) (map (opened (chain_in k)) (reaching g ps rs)) (get_or ss g Empty) (get_or vv g Empty)

-- as many trees as before, each with the later trees of its place joined behind, in their order
pub record JoinAt (k : Call) (ps : List ℕ) (us ss vv : List Tree) : Type 0 where
  pub long : length vv ≡ length ss
  pub at : (g : ℕ) → g < length ss → JoinsAll (chain_in k) (types_in k) (reaching g ps us) (get_or ss g Empty) (get_or vv g Empty)
