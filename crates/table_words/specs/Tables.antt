-- What a table holds: the different keys in order of first appearance, and for each call a tree of each key.
use Rattle.std.specs.Prelude.{◌≡◌, ◌<◌, ℕ, Bool, List, [], get_or, length, map}
use Rattle.std.specs.Ordering.{is_eq}
use Rattle.agg_terms.specs.Order.{compare_rows}
use Rattle.agg_terms.specs.Values.{Empty, Tree, Value}
use Rattle.agg_meaning.specs.Results.{blank}
use Rattle.agg_meaning.specs.Views.{Contribution, View, call_at, first_groups, state_at}
use Rattle.table_words.specs.KeyLists.{keys_with}

-- one tuple
abbrev pub same_tuple : List Value → List Value → Bool
same_tuple a b = is_eq (compare_rows a b)

-- the keys of contributions; without GROUP BY the empty tuple is there from the start
abbrev pub keys_in : (v : View) → List (Contribution v) → List (List Value)
keys_in v C = keys_with same_tuple (first_groups v) (map (λ c. c.0) C)

-- Keys and a column of trees for each call are the tables of these contributions.
pub record IsTable (v : View) (C : List (Contribution v)) (ks : List (List Value)) (columns : ℕ → List Tree) : Type 0 where
  pub keys : ks ≡ keys_in v C
  pub long : (i : ℕ) → i < length v.calls → length (columns i) ≡ length ks
  pub trees : (i : ℕ) → i < length v.calls → (g : ℕ) → g < length ks → get_or (columns i) g Empty ≡ state_at v C (get_or ks g []) i

-- a tree at a place, and past the last one that of no rows
abbrev pub tree_at : (v : View) → ℕ → List Tree → ℕ → Tree
tree_at v i trees g = get_or trees g (blank (call_at v.calls i).chain)
