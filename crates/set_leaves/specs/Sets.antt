-- The state of uniqExact that a state of the code is.
use Rattle.std.specs.Prelude.{ℕ, List}
use Rattle.agg_terms.specs.Chains.{UniqExact, Whole}
use Rattle.agg_terms.specs.Order.{compare_rows, different}
use Rattle.agg_terms.specs.Values.{Value, rows_tree}
use Rattle.agg_meaning.specs.States.{Held}
use Rattle.set_leaves.specs.Rows.{rows_in}
use Rattle.set_leaves.specs.declared.state.SetState.{SetState}

-- how many arguments there are, and rows: their different ones are the tree
abbrev pub set_held : ℕ → List (List Value) → Held
set_held n K = record {
  made = record { leaf = UniqExact; result = Whole 64; arguments = n };
  tree = rows_tree (different compare_rows K);
}

abbrev pub held : SetState → Held
held s = set_held s.arguments (rows_in s.rows)
