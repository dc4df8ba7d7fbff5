-- What the calls on states say of a chain over all argument types, said of a call's own.
use Rattle.std.proofs.Common.{◌≡◌, ℕ, List, [], ◌∷◌, map, refl, sym, ap, ◌∙◌, Result}
use Rattle.std.specs.Result.{OnOk}
use Rattle.agg_terms.specs.Chains.{Chain, Ty}
use Rattle.agg_terms.specs.Trees.{IsTree}
use Rattle.agg_terms.specs.Values.{Tree, Value}
use Rattle.agg_meaning.specs.Feeds.{opened}
use Rattle.agg_meaning.specs.Results.{blank}
use Rattle.agg_meaning.specs.States.{Joins, TakesFeeds}
use Rattle.agg_meaning.specs.Suffixes.{normal}
use Rattle.agg_meaning.proofs.Blank.{of_none}
use Rattle.int_leaves.specs.Rows.{argument}
use Rattle.link_types.specs.Links.{inner_types}
use Rattle.typed_columns.specs.Items.{item_value}
use Rattle.typed_columns.specs.declared.item.Item.{Item}
use Rattle.value_types.specs.Folds.{ty_of, value_of}
use Rattle.value_types.specs.declared.value.Value.{Value as Valued}
use Rattle.running_states.specs.declared.running.Running.{Running}
use Rattle.running_states.specs.Trees as links
use Rattle.running_states.specs.Words.{Feeds, HasTree, JoinsAll}
use Rattle.running_states.proofs.Outcomes.{on_ok}
use Rattle.chain_states.specs.declared.state.State.{State}
use Rattle.chain_states.specs.Calls.{TakeByPlace, chain_in, types_in}
use Rattle.chain_states.specs.proving.Places.{FeedsAt}
use Rattle.chain_states.specs.Ready.{Call}

module _ (c : Chain) (ts us : List Ty) (e : us ≡ inner_types c ts) where
  pub row_said : {A E : Type 0} (x : Result A E) (r : List Value) (s v : Running) → OnOk x (Feeds c us r s v) → OnOk x (TakesFeeds c ts (opened c r ∷ []) (links.tree_in s) (links.tree_in v))
  row_said x r s v h = on_ok x (λ a. a.over ts (sym e)) h

  pub joins_said : {A E : Type 0} (x : Result A E) (s u v : Running) → OnOk x (JoinsAll c us s u v) → OnOk x (Joins c ts (links.tree_in s) (links.tree_in u) (links.tree_in v))
  joins_said x s u v h = on_ok x (λ a. a.over ts (sym e)) h

  pub tree_said : (t : Tree) (s : Running) → HasTree c us t s → IsTree c ts t → links.tree_in s ≡ t
  tree_said t s a k = a.over ts (sym e) k

pub fresh_said : (c : Chain) (ts : List Ty) (t : Tree) → t ≡ blank c → t ≡ normal c ts []
fresh_said c ts t h = h ∙ sym (of_none c ts)

pub ruleset state_laws = (row_said, joins_said, tree_said, fresh_said)

-- a row of items
pub arguments_are : (items : List Item) → map argument items ≡ map value_of (map item_value items)
arguments_are [] = refl
arguments_are (i ∷ items) = ap (◌∷◌ (argument i)) (arguments_are items)

pub arguments_of : (items : List Item) (row : List Valued) → map item_value items ≡ row → map argument items ≡ map value_of row
arguments_of items row e = arguments_are items ∙ ap (map value_of) e

pub ruleset row_laws = (arguments_of)

-- rows fed by place
pub places_said : {A E : Type 0} (x : Result A E) (k : Call) (ps : List ℕ) (rs : List (List Value)) (ss vv : List State) → map ty_of k.types ≡ inner_types (chain_in k) (types_in k) →
    OnOk x (FeedsAt (chain_in k) (map ty_of k.types) ps rs ss vv) → OnOk x (TakeByPlace k ps rs ss vv)
places_said x k ps rs ss vv e h = on_ok x (λ a. record { long = a.long; at = λ g d l. (a.at g d l).over (types_in k) (sym e) }) h

pub ruleset place_laws = (places_said)
