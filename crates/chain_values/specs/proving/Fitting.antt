-- Rows that have a value of each type, and a state that took them.
use Rattle.std.specs.Prelude.{◌≡◌, Bool, true, false, ◌&&◌, List, [], ◌∷◌, map}
use Rattle.agg_terms.specs.Chains.{Chain, Ty}
use Rattle.agg_terms.specs.Fitting.{fits_value}
use Rattle.agg_terms.specs.Lists.{Each}
use Rattle.agg_terms.specs.Values.{Value}
use Rattle.agg_meaning.specs.Feeds.{AreValues, opened}
use Rattle.agg_meaning.specs.Results.{blank}
use Rattle.agg_meaning.specs.States.{TakesFeeds}
use Rattle.columns.specs.Rows.{Rows}
use Rattle.value_types.specs.Folds.{value_of}
use Rattle.running_states.specs.Trees.{tree_in}
use Rattle.running_states.specs.Words.{Over}
use Rattle.running_states.specs.declared.running.Running.{Running}

-- whether a row has a value of each type
abbrev pub are_values : List Ty → List Value → Bool
are_values [] [] = true
are_values (t ∷ ts) (v ∷ vs) = fits_value t v && are_values ts vs
are_values _ _ = false

-- the rows of a batch
abbrev pub rows_of : Rows → List (List Value)
rows_of batch = map (map value_of) batch.rows

-- a batch of these rows, where they have a value of each type
pub record HasRows (ts : List Ty) (rs : List (List Value)) (batch : Rows) : Type 0 where
  pub rows : Each (AreValues ts) rs → rows_of batch ≡ rs

-- a state that took these rows, where they have a value of each type
pub record IsRefed (c : Chain) (us : List Ty) (ts : List Ty) (rs : List (List Value)) (s : Running) : Type 0 where
  pub over : Each (AreValues ts) rs → Over c us (λ ys. TakesFeeds c ys (map (opened c) rs) (blank c) (tree_in s))
