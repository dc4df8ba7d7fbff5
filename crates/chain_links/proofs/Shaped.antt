-- States made of slots or of entries: what each says of the chain, where they are copied, or started.
use Rattle.std.proofs.Common.{◌≡◌, ℕ, ℤ, List, map, length, refl, sym, ap, ◌∙◌, subst, Result, Vec, Global}
use Rattle.std.specs.Result.{IfOk}
use Rattle.agg_terms.specs.Chains.{Chain, ForEach, MapOf, Resample, Ty}
use Rattle.agg_terms.specs.Lists.{Each, Rising}
use Rattle.agg_terms.specs.Order.{compare}
use Rattle.agg_terms.specs.Types.{intervals}
use Rattle.agg_terms.specs.Values.{Tree, Value, keyed_tree, slots_tree}
use Rattle.value_types.specs.declared.value.Value.{Value as Valued}
use Rattle.value_types.specs.Folds.{value_of}
use Rattle.running_states.specs.declared.running.Running.{Running}
use Rattle.running_states.specs.declared.running.Running.TheOpen.{Running-F}
use Rattle.running_states.specs.declared.running.Running.TheVariants.{Keyed, Slots}
use Rattle.running_states.specs.declared.running.Running.TheViews.{out-Running}
use Rattle.running_states.specs.Entries.{entries_in, keys_in}
use Rattle.running_states.specs.Shapes.{AreEntries, AreKeyed, AreParts, AreSlots, IsState}
use Rattle.running_states.specs.Trees.{tree_in}
use Rattle.running_states.proofs.Layers.{out_Keyed, out_Slots, tree_Keyed, tree_Slots}
use Rattle.running_states.proofs.Outcomes.{if_ok}
use Rattle.row_parts.proofs.Tuples.{map_twice}

-- slots as many as asked are slots
are_slots : (n : ℕ) (P : Running → Type 0) (x : Running-F Running) → AreParts n P x → AreSlots P x
are_slots n P (Running-F.Slots v) k = k.1
are_slots n P (Running-F.Int s) k = absurd k
are_slots n P (Running-F.Boxed s) k = absurd k
are_slots n P (Running-F.Keyed v) k = absurd k
are_slots n P (Running-F.Rows v) k = absurd k

module _ {E : Type 0} (r : Result Running E) (d c : Chain) (us : List Ty) where
  pub slots_shaped : (n : ℕ) → d ≡ ForEach c → IfOk r (λ s. AreParts n (IsState c us) (out-Running s)) → IfOk r (λ s. IsState d us s)
  slots_shaped n e h = if_ok r (λ s k. subst (λ x. IsState x us s) (sym e) (are_slots n (IsState c us) (out-Running s) k)) h

  pub parts_shaped : (start end : ℤ) (step n : ℕ) → d ≡ Resample start end step c → n ≡ intervals start end step → IfOk r (λ s. AreParts n (IsState c us) (out-Running s)) → IfOk r (λ s. IsState d us s)
  parts_shaped start end step n e m h = if_ok r (λ s k. subst (λ x. IsState x us s) (sym e) (subst (λ q. AreParts q (IsState c us) (out-Running s)) m k)) h

  pub keys_shaped : d ≡ MapOf c → IfOk r (λ s. AreKeyed (IsState c us) (out-Running s)) → IfOk r (λ s. IsState d us s)
  keys_shaped e h = if_ok r (λ s k. subst (λ x. IsState x us s) (sym e) k) h

-- what a state of the chain holds
module _ (d c : Chain) (us : List Ty) (s : Running) where
  pub slots_held : (v : Vec Running Global) → d ≡ ForEach c → s ≡ Slots v → IsState d us s → Each (IsState c us) v.items
  slots_held v e g k = subst (AreSlots (IsState c us)) (ap out-Running g ∙ out_Slots v) (subst (λ x. IsState x us s) e k)

  pub parts_held : (start end : ℤ) (step : ℕ) (v : Vec Running Global) → d ≡ Resample start end step c → s ≡ Slots v → IsState d us s → (length v.items ≡ intervals start end step) × Each (IsState c us) v.items
  parts_held start end step v e g k = subst (AreParts (intervals start end step) (IsState c us)) (ap out-Running g ∙ out_Slots v) (subst (λ x. IsState x us s) e k)

  pub entries_held : (v : Vec (Valued × Running) Global) → d ≡ MapOf c → s ≡ Keyed v → IsState d us s → AreEntries (IsState c us) v.items
  entries_held v e g k = subst (AreKeyed (IsState c us)) (ap out-Running g ∙ out_Keyed v) (subst (λ x. IsState x us s) e k)

-- an equal tree
module _ {E : Type 0} (r : Result Running E) (s : Running) where
  pub slots_same : (v : Vec Running Global) (xs : List Running) → s ≡ Slots v → xs ≡ v.items → IfOk r (λ z. tree_in z ≡ slots_tree (map tree_in xs)) → IfOk r (λ z. tree_in z ≡ tree_in s)
  slots_same v xs g m h = if_ok r (λ z k. k ∙ ap (λ ys. slots_tree (map tree_in ys)) m ∙ sym (ap tree_in g ∙ tree_Slots v)) h

  pub entries_same : (v : Vec (Valued × Running) Global) (xs : List (Valued × Running)) → s ≡ Keyed v → xs ≡ v.items → IfOk r (λ z. tree_in z ≡ keyed_tree (entries_in xs)) → IfOk r (λ z. tree_in z ≡ tree_in s)
  entries_same v xs g m h = if_ok r (λ z k. k ∙ ap (λ ys. keyed_tree (entries_in ys)) m ∙ sym (ap tree_in g ∙ tree_Keyed v)) h

-- entries with the same trees at the same keys
pub keys_listed : (es : List (Valued × Running)) → map (λ e. e.0) (entries_in es) ≡ keys_in es
keys_listed es = map_twice (λ e. e.0) (λ e. (value_of e.0, tree_in e.1)) es

pub copied_rise : (es xs : List (Valued × Running)) → entries_in es ≡ entries_in xs → Rising compare (keys_in xs) → Rising compare (keys_in es)
copied_rise es xs e h = subst (Rising compare) (sym (keys_listed xs) ∙ ap (map (λ (e : Value × Tree). e.0)) (sym e) ∙ keys_listed es) h
