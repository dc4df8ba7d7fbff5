-- What the columns of states of all calls come to when later states are joined behind them.
use Rattle.std.specs.Prelude.{◌≡◌, ◌<◌, ℕ, List, [], get_or, length}
use Rattle.agg_terms.specs.Values.{Empty, Tree}
use Rattle.agg_meaning.specs.Results.{blank}
use Rattle.chain_states.specs.Calls.{chain_in, types_in}
use Rattle.table_words.specs.KeyLists.{reaching}
use Rattle.table_words.specs.Laws.{JoinsAll}
use Rattle.group_tables.specs.declared.grouping.GroupCall.{GroupCall}

-- so many trees, each with the later trees of its place joined behind; a new one begins as that of no rows
pub record IsJoined (call : GroupCall) (count : ℕ) (ps : List ℕ) (us old new : List Tree) : Type 0 where
  pub long : length new ≡ count
  pub at : (g : ℕ) → g < count →
      JoinsAll (chain_in call.ready) (types_in call.ready) (reaching g ps us) (get_or old g (blank (chain_in call.ready))) (get_or new g Empty)

-- the same of each call
pub record AreJoined (calls : List GroupCall) (count : ℕ) (ps : List ℕ) (later old new : List (List Tree)) : Type 0 where
  pub each : (i : ℕ) (call : GroupCall) → i < length calls → IsJoined (get_or calls i call) count ps (get_or later i []) (get_or old i []) (get_or new i [])
