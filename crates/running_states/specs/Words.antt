-- The words of the calls on states. Each is said over all argument types of the chain that give its function these types: what a suffix does of
-- the state inside depends on no more.
use Rattle.std.specs.Prelude.{◌≡◌, List}
use Rattle.agg_terms.specs.Chains.{Chain, Ty}
use Rattle.agg_terms.specs.Trees.{IsTree}
use Rattle.agg_terms.specs.Values.{Tree, Value}
use Rattle.agg_meaning.specs.States.{Joins, Takes}
use Rattle.link_types.specs.Links.{inner_types}
use Rattle.running_states.specs.declared.running.Running.{Running}
use Rattle.running_states.specs.Trees.{tree_in}

-- what holds over all argument types of a chain that give its function these
abbrev pub Over : Chain → List Ty → (List Ty → Type 0) → Type 0
Over c us P = (ts : List Ty) → inner_types c ts ≡ us → P ts

-- a state with this tree, where it is one of the chain
pub record HasTree (c : Chain) (us : List Ty) (t : Tree) (s : Running) : Type 0 where
  pub over : Over c us (λ ts. IsTree c ts t → tree_in s ≡ t)

-- a row behind those that a state stood for
pub record Feeds (c : Chain) (us : List Ty) (r : List Value) (s v : Running) : Type 0 where
  pub over : Over c us (λ ts. Takes c ts r (tree_in s) (tree_in v))

-- the rows of a later state behind
pub record JoinsAll (c : Chain) (us : List Ty) (s u v : Running) : Type 0 where
  pub over : Over c us (λ ts. Joins c ts (tree_in s) (tree_in u) (tree_in v))
