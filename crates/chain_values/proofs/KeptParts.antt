-- What -ForEach, -Resample and -Map keep: its shape, its values, and whether a row reached the function there.
use Rattle.std.proofs.Common.{◌≡◌, ℕ, ℤ, Bool, List, map, length, sym, ap, ◌∙◌, subst, Result, Vec, Global}
use Rattle.std.specs.Result.{IfOk}
use Rattle.std.proofs.lemmas.List.{length-map}
use Rattle.agg_terms.specs.Chains.{Chain, ForEach, MapOf, Resample, Ty}
use Rattle.agg_terms.specs.Lists.{Each}
use Rattle.agg_terms.specs.Types.{intervals, inward}
use Rattle.agg_meaning.specs.States.{IsFedChain, MeansChain}
use Rattle.agg_typing.specs.Promises.{IsLegalCall}
use Rattle.link_types.specs.Links.{inner_types}
use Rattle.value_types.specs.Folds.{value_of}
use Rattle.value_types.specs.declared.value.Value.{Value as Valued}
use Rattle.value_types.specs.declared.value.Value.TheVariants as value
use Rattle.value_types.proofs.FoldLaws.{value_of-List, value_of-Pairs}
use Rattle.row_parts.specs.Rows.{pair_value}
use Rattle.running_states.specs.declared.running.Running.{Running}
use Rattle.running_states.specs.declared.running.Running.TheVariants.{Keyed, Slots}
use Rattle.running_states.specs.declared.running.Running.TheOpen.{Running-F}
use Rattle.running_states.specs.Entries.{entries_in}
use Rattle.running_states.specs.Shapes.{AreKeyed, AreParts, AreSlots, IsState}
use Rattle.running_states.specs.Trees.{tree_in}
use Rattle.running_states.proofs.Layers.{out_Keyed, out_Slots, tree_Keyed, tree_Slots}
use Rattle.chain_values.specs.proving.Finished.{AreFed, AreKeysFed, MeanKeys, MeanSlots}
use Rattle.chain_values.proofs.KeyValues.{keys_told, keys_value}
use Rattle.chain_values.proofs.Passing.{if_ok, legal_for_each, legal_map, legal_resample}
use Rattle.chain_values.proofs.SlotValues.{parts_told, parts_value, slots_told, slots_value}

-- -ForEach
module _ (c : Chain) (ts us fs : List Ty) where
  pub function_for_each : us ≡ inward (ForEach c) ts → fs ≡ inner_types (ForEach c) ts → fs ≡ inner_types c us
  function_for_each e h = h ∙ ap (inner_types c) (sym e)

module _ (c : Chain) (s : Running) (v : Vec Running Global) (g : s ≡ Slots v) where
  pub slots_here : (fs : List Ty) → IsState (ForEach c) fs s → Each (IsState c fs) v.items
  slots_here fs k = subst (AreSlots (IsState c fs)) (out_Slots v) (subst (IsState (ForEach c) fs) g k)

  pub slots_values : (ts us : List Ty) (xs : List Valued) → us ≡ inward (ForEach c) ts → MeanSlots c us (map tree_in v.items) (map value_of xs) → MeansChain (ForEach c) ts (tree_in s) (value_of (value.List xs))
  slots_values ts us xs e a = slots_value c ts us (tree_in s) (map tree_in v.items) (map value_of xs) (value_of (value.List xs)) e (ap tree_in g ∙ tree_Slots v) (value_of-List xs) a

  pub slots_tolds : {E : Type 0} (ts us : List Ty) (r : Result Bool E) → us ≡ inward (ForEach c) ts → IfOk r (λ b. AreFed c us (map tree_in v.items) b) → IfOk r (λ b. IsFedChain (ForEach c) ts (tree_in s) b)
  slots_tolds ts us r e h = if_ok r (λ b a. slots_told c ts us (tree_in s) (map tree_in v.items) b e (ap tree_in g ∙ tree_Slots v) a) h

pub ruleset slot_values = (legal_for_each, function_for_each, slots_here, slots_values)

pub ruleset slot_tolds = (legal_for_each, function_for_each, slots_here, slots_tolds)

-- -Resample
module _ (start end : ℤ) (step : ℕ) (c : Chain) (ts us fs : List Ty) where
  pub function_resample : us ≡ inward (Resample start end step c) ts → fs ≡ inner_types (Resample start end step c) ts → fs ≡ inner_types c us
  function_resample e h = h ∙ ap (inner_types c) (sym e)

module _ (start end : ℤ) (step : ℕ) (c : Chain) (fs : List Ty) (s : Running) (v : Vec Running Global) (g : s ≡ Slots v) (k : IsState (Resample start end step c) fs s) where
  parts_are : AreParts (intervals start end step) (IsState c fs) (Running-F.Slots v)
  parts_are = subst (AreParts (intervals start end step) (IsState c fs)) (out_Slots v) (subst (IsState (Resample start end step c) fs) g k)

  pub parts_here : Each (IsState c fs) v.items
  parts_here = parts_are.1

  parts_count : length (map tree_in v.items) ≡ intervals start end step
  parts_count = length-map v.items tree_in ∙ parts_are.0

  pub parts_values : (ts us : List Ty) (xs : List Valued) → us ≡ inward (Resample start end step c) ts → MeanSlots c us (map tree_in v.items) (map value_of xs) → MeansChain (Resample start end step c) ts (tree_in s) (value_of (value.List xs))
  parts_values ts us xs e a =
      parts_value start end step c ts us (tree_in s) (map tree_in v.items) e (ap tree_in g ∙ tree_Slots v) parts_count (map value_of xs) (value_of (value.List xs)) (value_of-List xs) a

  pub parts_tolds : {E : Type 0} (ts us : List Ty) (r : Result Bool E) → us ≡ inward (Resample start end step c) ts → IfOk r (λ b. AreFed c us (map tree_in v.items) b) → IfOk r (λ b. IsFedChain (Resample start end step c) ts (tree_in s) b)
  parts_tolds ts us r e h = if_ok r (λ b a. parts_told start end step c ts us (tree_in s) (map tree_in v.items) e (ap tree_in g ∙ tree_Slots v) parts_count b a) h

pub ruleset part_values = (legal_resample, function_resample, parts_here, parts_values)

pub ruleset part_tolds = (legal_resample, function_resample, parts_here, parts_tolds)

-- -Map
module _ (c : Chain) (ts us fs : List Ty) where
  pub function_map : us ≡ inward (MapOf c) ts → fs ≡ inner_types (MapOf c) ts → fs ≡ inner_types c us
  function_map e h = h ∙ ap (inner_types c) (sym e)

module _ (c : Chain) (s : Running) (v : Vec (Valued × Running) Global) (g : s ≡ Keyed v) where
  pub keys_here : (fs : List Ty) → IsState (MapOf c) fs s → Each (λ e. IsState c fs e.1) v.items
  keys_here fs k = (subst (AreKeyed (IsState c fs)) (out_Keyed v) (subst (IsState (MapOf c) fs) g k)).0

  pub keys_values : (ts us : List Ty) (xs : List (Valued × Valued)) → us ≡ inward (MapOf c) ts → MeanKeys c us (entries_in v.items) (map pair_value xs) → MeansChain (MapOf c) ts (tree_in s) (value_of (value.Pairs xs))
  keys_values ts us xs e a = keys_value c ts us (tree_in s) (entries_in v.items) (map pair_value xs) (value_of (value.Pairs xs)) e (ap tree_in g ∙ tree_Keyed v) (value_of-Pairs xs) a

  pub keys_tolds : {E : Type 0} (ts us : List Ty) (r : Result Bool E) → us ≡ inward (MapOf c) ts → IfOk r (λ b. AreKeysFed c us (entries_in v.items) b) → IfOk r (λ b. IsFedChain (MapOf c) ts (tree_in s) b)
  keys_tolds ts us r e h = if_ok r (λ b a. keys_told c ts us (tree_in s) (entries_in v.items) b e (ap tree_in g ∙ tree_Keyed v) a) h

pub ruleset key_values = (legal_map, function_map, keys_here, keys_values)

pub ruleset key_tolds = (legal_map, function_map, keys_here, keys_tolds)
