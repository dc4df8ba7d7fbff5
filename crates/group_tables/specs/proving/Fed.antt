-- What the columns of states of all calls take.
use Rattle.std.specs.Prelude.{◌≡◌, ◌<◌, ℕ, List, [], get_or, length, map, replicate}
use Rattle.agg_terms.specs.Values.{Empty, Tree, Value}
use Rattle.agg_meaning.specs.Feeds.{opened}
use Rattle.agg_meaning.specs.Results.{blank}
use Rattle.agg_meaning.specs.States.{TakesFeeds}
use Rattle.typed_columns.specs.TypedValues.{TypedValues}
use Rattle.chain_states.specs.Calls.{argument_rows, chain_in, types_in}
use Rattle.state_columns.specs.Trees.{blank_in}
use Rattle.table_words.specs.KeyLists.{reaching}
use Rattle.group_tables.specs.declared.grouping.GroupCall.{GroupCall}

-- trees of no rows
abbrev pub IsFresh : GroupCall → ℕ → List Tree → Type 0
IsFresh call count trees = trees ≡ replicate count (blank_in call.ready)

pub record AreFresh (calls : List GroupCall) (count : ℕ) (columns : List (List Tree)) : Type 0 where
  pub each : (i : ℕ) (call : GroupCall) → i < length calls → IsFresh (get_or calls i call) count (get_or columns i [])

-- so many trees, each with the rows of its place behind those that it stood for; a new one begins as that of no rows
pub record IsFed (call : GroupCall) (count : ℕ) (ps : List ℕ) (rs : List (List Value)) (old new : List Tree) : Type 0 where
  pub long : length new ≡ count
  pub at : (g : ℕ) → g < count →
      TakesFeeds (chain_in call.ready) (types_in call.ready) (map (opened (chain_in call.ready)) (reaching g ps rs)) (get_or old g (blank (chain_in call.ready))) (get_or new g Empty)

-- the same of each call: n rows of columns from a row on
pub record AreFed (calls : List GroupCall) (count : ℕ) (ps : List ℕ) (columns : List TypedValues) (from n : ℕ) (old new : List (List Tree)) : Type 0 where
  pub each : (i : ℕ) (call : GroupCall) → i < length calls →
      IsFed (get_or calls i call) count ps (argument_rows columns (get_or calls i call).columns from n) (get_or old i []) (get_or new i [])
