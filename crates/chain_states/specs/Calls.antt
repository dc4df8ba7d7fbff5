-- The words of the public calls: a call with its types, the tree of a state, and what a state takes.
use Rattle.std.specs.Prelude.{◌≡◌, ◌≤◌, ◌<◌, ◌+◌, ℕ, zero, suc, nat_eq, cond, List, [], ◌∷◌, ◌++◌, map, length, get_or}
use Rattle.agg_terms.specs.Chains.{Chain, Ty}
use Rattle.agg_terms.specs.Values.{Tree, Value}
use Rattle.agg_meaning.specs.Feeds.{opened}
use Rattle.agg_meaning.specs.States.{TakesFeeds}
use Rattle.agg_meaning.specs.Suffixes.{normal}
use Rattle.agg_meaning.specs.Views.{items_at}
use Rattle.typed_columns.specs.TypedValues.{TypedValues}
use Rattle.value_types.specs.Folds.{chain_of, ty_of, value_of}
use Rattle.value_types.specs.declared.value.Value.TheVariants as value
use Rattle.running_states.specs.Shapes.{IsState}
use Rattle.running_states.specs.Trees as links
use Rattle.chain_states.specs.declared.state.State.{State}
use Rattle.chain_states.specs.Ready.{Call}

-- the chain of a call, and the types of its arguments
abbrev pub chain_in : Call → Chain
chain_in k = chain_of k.legal.chain

abbrev pub types_in : Call → List Ty
types_in k = map ty_of k.legal.args

-- the tree of a state
abbrev pub tree_in : State → Tree
tree_in s = links.tree_in s.running

-- a state of a call: what it is made of
abbrev pub IsStateOf : Call → State → Type 0
IsStateOf k s = IsState (chain_in k) (map ty_of k.types) s.running

-- rows behind those that a state stood for
abbrev pub StateTakes : Call → List (List Value) → State → State → Type 0
StateTakes k rows s v = TakesFeeds (chain_in k) (types_in k) (map (opened (chain_in k)) rows) (tree_in s) (tree_in v)

-- the elements whose place is g, in their order
abbrev pub reaching : {X : Type 0} → ℕ → List ℕ → List X → List X
reaching g [] xs = []
reaching g (p ∷ ps) [] = []
reaching g (p ∷ ps) (x ∷ xs) = cond (nat_eq p g) (x ∷ reaching g ps xs) (reaching g ps xs)

-- the row that columns have at a number, and n rows of a call's arguments from a number on
abbrev pub batch_row : List TypedValues → ℕ → List Value
batch_row columns n = map (λ c. value_of (get_or c.values n value.Nil)) columns

abbrev pub argument_rows : List TypedValues → List ℕ → ℕ → ℕ → List (List Value)
argument_rows columns arguments from zero = []
argument_rows columns arguments from (suc n) =
    argument_rows columns arguments from n ++ items_at arguments (batch_row columns (from + n)) ∷ []

-- As many states as before, each with the rows of its place behind those that it stood for.
pub record TakeByPlace (k : Call) (ps : List ℕ) (rs : List (List Value)) (ss vv : List State) : Type 0 where
  pub long : length vv ≡ length ss
  pub at : (g : ℕ) (d : State) → g < length ss → StateTakes k (reaching g ps rs) (get_or ss g d) (get_or vv g d)

-- States of no rows, n of them, behind those that there were.
pub record AddsFresh (k : Call) (n : ℕ) (ss vv : List State) : Type 0 where
  pub long : length vv ≡ length ss + n
  pub same : (i : ℕ) (d : State) → i < length ss → get_or vv i d ≡ get_or ss i d
  pub fresh : (i : ℕ) (d : State) → length ss ≤ i → i < length vv → tree_in (get_or vv i d) ≡ normal (chain_in k) (types_in k) []
