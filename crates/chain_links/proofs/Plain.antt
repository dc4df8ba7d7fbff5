-- The suffixes that add nothing to the state of the chain inside: each word of that state is one of theirs.
use Rattle.std.proofs.Common.{◌≡◌, List, Result}
use Rattle.std.specs.Result.{IfOk, OnOk}
use Rattle.agg_terms.specs.Chains.{Array, Chain, If, Merge, OrDefault, OrNull, State, Ty}
use Rattle.agg_terms.specs.Types.{inward}
use Rattle.agg_terms.specs.Values.{Tree, Value}
use Rattle.agg_meaning.proofs.Suffixed.{array_joins, if_joins, merge_joins}
use Rattle.running_states.specs.declared.running.Running.{Running}
use Rattle.running_states.proofs.Outcomes.{if_ok, on_ok}
use Rattle.running_states.specs.Words.{Feeds, HasTree, JoinsAll}

module _ {E : Type 0} (c : Chain) (us : List Ty) (t : Tree) (r : Result Running E) where
  pub tree_if : IfOk r (λ s. HasTree c us t s) → IfOk r (λ s. HasTree (If c) us t s)
  tree_if = if_ok r (λ s h. record { over = λ ts e k. h.over (inward (If c) ts) e k })

  pub tree_array : IfOk r (λ s. HasTree c us t s) → IfOk r (λ s. HasTree (Array c) us t s)
  tree_array = if_ok r (λ s h. record { over = λ ts e k. h.over (inward (Array c) ts) e k })

  pub tree_merge : IfOk r (λ s. HasTree c us t s) → IfOk r (λ s. HasTree (Merge c) us t s)
  tree_merge = if_ok r (λ s h. record { over = λ ts e k. h.over (inward (Merge c) ts) e k })

  pub tree_or_null : IfOk r (λ s. HasTree c us t s) → IfOk r (λ s. HasTree (OrNull c) us t s)
  tree_or_null = if_ok r (λ s h. record { over = h.over })

  pub tree_or_default : IfOk r (λ s. HasTree c us t s) → IfOk r (λ s. HasTree (OrDefault c) us t s)
  tree_or_default = if_ok r (λ s h. record { over = h.over })

  pub tree_state : IfOk r (λ s. HasTree c us t s) → IfOk r (λ s. HasTree (State c) us t s)
  tree_state = if_ok r (λ s h. record { over = h.over })

pub ruleset tree_laws = (tree_if, tree_array, tree_merge, tree_or_null, tree_or_default, tree_state)

module _ {A E : Type 0} (c : Chain) (us : List Ty) (r : Result A E) (s u v : Running) where
  pub joins_if : OnOk r (JoinsAll c us s u v) → OnOk r (JoinsAll (If c) us s u v)
  joins_if = on_ok r (λ h. record { over = λ ts e. if_joins c ts _ _ _ (h.over (inward (If c) ts) e) })

  pub joins_array : OnOk r (JoinsAll c us s u v) → OnOk r (JoinsAll (Array c) us s u v)
  joins_array = on_ok r (λ h. record { over = λ ts e. array_joins c ts _ _ _ (h.over (inward (Array c) ts) e) })

  pub joins_merge : OnOk r (JoinsAll c us s u v) → OnOk r (JoinsAll (Merge c) us s u v)
  joins_merge = on_ok r (λ h. record { over = λ ts e. merge_joins c ts _ _ _ (h.over (inward (Merge c) ts) e) })

  pub joins_or_null : OnOk r (JoinsAll c us s u v) → OnOk r (JoinsAll (OrNull c) us s u v)
  joins_or_null = on_ok r (λ h. record { over = h.over })

  pub joins_or_default : OnOk r (JoinsAll c us s u v) → OnOk r (JoinsAll (OrDefault c) us s u v)
  joins_or_default = on_ok r (λ h. record { over = h.over })

  pub joins_state : OnOk r (JoinsAll c us s u v) → OnOk r (JoinsAll (State c) us s u v)
  joins_state = on_ok r (λ h. record { over = h.over })

pub ruleset joins_laws = (joins_if, joins_array, joins_merge, joins_or_null, joins_or_default, joins_state)

module _ {A E : Type 0} (c : Chain) (us : List Ty) (r : Result A E) (row : List Value) (s v : Running) where
  pub feeds_or_null : OnOk r (Feeds c us row s v) → OnOk r (Feeds (OrNull c) us row s v)
  feeds_or_null = on_ok r (λ h. record { over = h.over })

  pub feeds_or_default : OnOk r (Feeds c us row s v) → OnOk r (Feeds (OrDefault c) us row s v)
  feeds_or_default = on_ok r (λ h. record { over = h.over })

  pub feeds_state : OnOk r (Feeds c us row s v) → OnOk r (Feeds (State c) us row s v)
  feeds_state = on_ok r (λ h. record { over = h.over })

pub ruleset feeds_laws = (feeds_or_null, feeds_or_default, feeds_state)
