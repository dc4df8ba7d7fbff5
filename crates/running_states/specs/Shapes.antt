-- What a state of a chain is made of.
use Rattle.std.specs.Prelude.{◌≡◌, ℕ, true, false, List, map, length}
use Rattle.agg_terms.specs.Chains.{Chain, Leaf, Of, If, Array, MapOf, ForEach, OrNull, OrDefault, Distinct, State, Merge, Resample, Ty}
use Rattle.agg_terms.specs.Lists.{Each, Rising}
use Rattle.agg_terms.specs.Order.{compare}
use Rattle.agg_terms.specs.Types.{intervals}
use Rattle.agg_terms.specs.Values.{Value}
use Rattle.agg_meaning.specs.Results.{leaf_result}
use Rattle.agg_meaning.specs.States.{made_for}
use Rattle.boxed_leaves.specs.Boxed as boxed
use Rattle.distinct_rows.specs.Rows.{AreFirsts, rows_in}
use Rattle.int_leaves.specs.Parts as int
use Rattle.int_leaves.specs.Served as int_served
use Rattle.value_types.specs.Folds.{value_of}
use Rattle.value_types.specs.declared.value.Value.{Value as Valued}
use Rattle.running_states.specs.declared.running.Running.{Running}
use Rattle.running_states.specs.declared.running.Running.TheOpen.{Running-F}
use Rattle.running_states.specs.declared.running.Running.TheViews.{out-Running}

-- a state of a function over arguments of these types
abbrev pub IsLeafState : Leaf → List Ty → Running-F Running → Type 0
IsLeafState f us (Running-F.Int s) = (int_served.is_served f us ≡ true) × ((int.held s).made ≡ made_for f us)
IsLeafState f us (Running-F.Boxed s) =
    (int_served.is_served f us ≡ false) × ((boxed.held (leaf_result f us) s).made ≡ made_for f us)
IsLeafState f us _ = ⊥

-- slots, each as asked; and n of them
abbrev pub AreSlots : (Running → Type 0) → Running-F Running → Type 0
AreSlots P (Running-F.Slots slots) = Each P slots.items
AreSlots P _ = ⊥

abbrev pub AreParts : ℕ → (Running → Type 0) → Running-F Running → Type 0
AreParts n P (Running-F.Slots slots) = (length slots.items ≡ n) × Each P slots.items
AreParts n P _ = ⊥

-- the key of an entry
abbrev pub key_in : Valued × Running → Value
key_in e = value_of e.0

-- entries by rising keys, each state as asked
abbrev pub AreEntries : (Running → Type 0) → List (Valued × Running) → Type 0
AreEntries P es = Each (λ e. P e.1) es × Rising compare (map key_in es)

abbrev pub AreKeyed : (Running → Type 0) → Running-F Running → Type 0
AreKeyed P (Running-F.Keyed entries) = AreEntries P entries.items
AreKeyed P _ = ⊥

-- rows, no two of them the same
abbrev pub AreRows : Running-F Running → Type 0
AreRows (Running-F.Rows rows) = AreFirsts (rows_in rows.value)
AreRows _ = ⊥

-- A state of a chain whose function has arguments of these types. -If, -Array, -OrNull, -OrDefault, -State and -Merge keep what the chain inside keeps.
abbrev pub IsState : Chain → List Ty → Running → Type 0
IsState (Of f) us s = IsLeafState f us (out-Running s)
IsState (If c) us s = IsState c us s
IsState (Array c) us s = IsState c us s
IsState (MapOf c) us s = AreKeyed (IsState c us) (out-Running s)
IsState (ForEach c) us s = AreSlots (IsState c us) (out-Running s)
IsState (OrNull c) us s = IsState c us s
IsState (OrDefault c) us s = IsState c us s
IsState (Distinct c) us s = AreRows (out-Running s)
IsState (State c) us s = IsState c us s
IsState (Merge c) us s = IsState c us s
IsState (Resample start end step c) us s = AreParts (intervals start end step) (IsState c us) (out-Running s)
