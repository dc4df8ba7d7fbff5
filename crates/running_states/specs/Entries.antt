-- Entries by rising keys: their keys, their trees, and the place of a key among them.
use Rattle.std.specs.Prelude.{◌≡◌, ◌<◌, ◌≤◌, ℕ, List, map, length, get_or, Result, Ok, Err}
use Rattle.std.specs.declared.cmp.Ordering.TheVariants.{Greater, Less}
use Rattle.agg_terms.specs.Order.{compare}
use Rattle.agg_terms.specs.Values.{Nil, Tree, Value}
use Rattle.value_types.specs.declared.value.Value.{Value as Valued}
use Rattle.value_types.specs.Folds.{value_of}
use Rattle.running_states.specs.declared.running.Running.{Running}
use Rattle.running_states.specs.Shapes.{key_in}
use Rattle.running_states.specs.Trees.{tree_in}

-- the keys of entries, and their trees at their keys
abbrev pub keys_in : List (Valued × Running) → List Value
keys_in es = map key_in es

abbrev pub entries_in : List (Valued × Running) → List (Value × Tree)
entries_in es = map (λ e. (value_of e.0, tree_in e.1)) es

-- where a key stands among keys that rise, and where it would
pub record IsFoundAt (k : Value) (ks : List Value) (p : ℕ) : Type 0 where
  pub within : p < length ks
  pub here : get_or ks p Nil ≡ k

pub record IsMissingAt (k : Value) (ks : List Value) (p : ℕ) : Type 0 where
  pub within : p ≤ length ks
  pub above : (j : ℕ) → j < p → compare k (get_or ks j Nil) ≡ Greater
  pub below : (j : ℕ) → p ≤ j → j < length ks → compare k (get_or ks j Nil) ≡ Less

abbrev pub IsPlaceOf : Value → List Value → Result ℕ ℕ → Type 0
IsPlaceOf k ks (Ok p) = IsFoundAt k ks p
IsPlaceOf k ks (Err p) = IsMissingAt k ks p
