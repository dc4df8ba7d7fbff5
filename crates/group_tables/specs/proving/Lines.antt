-- What a line of the answer is made of.
use Rattle.std.specs.Prelude.{◌≡◌, ◌<◌, ℕ, List, ◌++◌, get_or, length}
use Rattle.agg_terms.specs.Chains as terms
use Rattle.agg_terms.specs.Values.{Empty, Nil, Value}
use Rattle.agg_meaning.specs.Results.{result}
use Rattle.agg_meaning.specs.States.{MeansChain}
use Rattle.chain_states.specs.Calls.{chain_in, types_in}
use Rattle.state_columns.specs.Trees.{trees_in}
use Rattle.state_columns.specs.declared.column.StateColumn.{StateColumn}
use Rattle.group_tables.specs.declared.grouping.GroupCall.{GroupCall}

-- the type of a call's result
abbrev pub result_of : GroupCall → terms.Ty
result_of c = result (chain_in c.ready) (types_in c.ready)

-- behind some values, what each of the first n calls means by its state at a place
pub record AddsValues (calls : List GroupCall) (columns : List StateColumn) (place n : ℕ) (old new : List Value) : Type 0 where
  pub added : List Value
  pub behind : new ≡ old ++ added
  pub many : length added ≡ n
  pub each : (i : ℕ) (call : GroupCall) (column : StateColumn) → i < n →
      MeansChain (chain_in (get_or calls i call).ready) (types_in (get_or calls i call).ready) (get_or (trees_in (get_or columns i column)) place Empty) (get_or added i Nil)
