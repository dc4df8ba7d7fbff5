-- Answers for the cycle of chain_values::chains::value_over.
use Rattle.std.proofs.Common.{rules, ◌≡◌, map, sym, ap, ◌∙◌, subst, to_z, of_z}
use mir.Syntax.{w64}
use Rattle.std.specs.Result.{IfOk}
use Rattle.agg_terms.specs.Chains.{Array, ForEach, MapOf}
use Rattle.agg_terms.specs.Lists.{Each}
use Rattle.agg_terms.specs.Types.{inward}
use Rattle.agg_terms.specs.Chains as terms
use Rattle.agg_meaning.specs.States.{MeansChain}
use Rattle.agg_terms.specs.Values.{rows_tree}
use Rattle.distinct_rows.specs.Rows.{rows_in}
use Rattle.row_parts.specs.Rows.{pair_value}
use Rattle.value_types.specs.declared.chain.Chain.TheVariants as chained
use Rattle.value_types.specs.Folds.{chain_of, ty_of, value_of}
use Rattle.value_types.proofs.FoldLaws.{chain_of-Array, chain_of-Distinct, chain_of-ForEach, chain_of-If, chain_of-MapOf, chain_of-Merge, chain_of-OrDefault, chain_of-OrNull, chain_of-Resample, chain_of-State}
use Rattle.running_states.proofs.Layers.{tree_Rows}
use Rattle.running_states.specs.Entries.{entries_in}
use Rattle.running_states.specs.Shapes.{IsState}
use Rattle.running_states.specs.Trees.{tree_in}
use Rattle.chain_values.proofs.KeptParts.{function_for_each, function_map, function_resample, keys_here, keys_values, parts_here, parts_values, slots_here, slots_values}
use Rattle.chain_values.proofs.Passing.{function_array, function_if, function_merge, legal_array, legal_for_each, legal_if, legal_map, legal_merge, legal_resample}
use Rattle.chain_values.specs.proving.Finished.{MeanKeys, MeanSlots}
use Rattle.chain_values.proofs.Arms.{value_arm, value_leaf}
use Rattle.chain_values.proofs.FirstValues.{first_values}
use Rattle.chain_values.proofs.+value_over.Goals as goal

pub inward::value_when_met-value_over-requires : goal.inward::value_when_met-value_over-requires
inward::value_when_met-value_over-requires t c =
    (search rules, (legal_if (chain_of c.args.of.now) (map ty_of c.args.types.now) (map ty_of c.front_types.result.now) c.front_types.ensures c.requires.legal, (function_if (chain_of c.args.of.now) (map ty_of c.args.types.now) (map ty_of c.front_types.result.now) (map ty_of c.args.function.now) c.front_types.ensures c.requires.function, c.requires.shape)))

pub inward::value_of_elements-value_over-requires : goal.inward::value_of_elements-value_over-requires
inward::value_of_elements-value_over-requires t c =
    let e : map ty_of c.as_slice.result.now ≡ inward (Array (chain_of c.args.of.now)) (map ty_of c.args.types.now) = search rules in
    (search rules, (legal_array (chain_of c.args.of.now) (map ty_of c.args.types.now) (map ty_of c.as_slice.result.now) e c.requires.legal, (function_array (chain_of c.args.of.now) (map ty_of c.args.types.now) (map ty_of c.as_slice.result.now) (map ty_of c.args.function.now) e c.requires.function, c.requires.shape)))

pub inward::value_of_states-value_over-requires : goal.inward::value_of_states-value_over-requires
inward::value_of_states-value_over-requires t c =
    (search rules, (legal_merge (chain_of c.args.of.now) (map ty_of c.args.types.now) (map ty_of c.args.inner.now) c.requires.inner c.requires.legal, (function_merge (chain_of c.args.of.now) (map ty_of c.args.types.now) (map ty_of c.args.inner.now) (map ty_of c.args.function.now) c.requires.inner c.requires.function, c.requires.shape)))

pub keys::value_at_keys-pairs_of-requires : goal.keys::value_at_keys-pairs_of-requires
keys::value_at_keys-pairs_of-requires t c =
    let e : map ty_of c.as_slice.result.now ≡ inward (MapOf (chain_of c.args.of.now)) (map ty_of c.args.types.now) = search rules in
    (search rules, (legal_map (chain_of c.args.of.now) (map ty_of c.args.types.now) (map ty_of c.as_slice.result.now) e c.requires.legal, (function_map (chain_of c.args.of.now) (map ty_of c.args.types.now) (map ty_of c.as_slice.result.now) (map ty_of c.args.function.now) e c.requires.function, subst (Each (λ e. IsState (chain_of c.args.of.now) (map ty_of c.args.function.now) e.1)) (sym c.as_slice-in-Keyed.ensures.value) (keys_here (chain_of c.args.of.now) c.args.state.now c.in-Keyed.entries c.in-Keyed.is (map ty_of c.args.function.now) c.requires.shape))))

pub slots::value_of_slots-values_of-requires : goal.slots::value_of_slots-values_of-requires
slots::value_of_slots-values_of-requires t c =
    let e : map ty_of c.as_slice.result.now ≡ inward (ForEach (chain_of c.args.of.now)) (map ty_of c.args.types.now) = search rules in
    (search rules, (legal_for_each (chain_of c.args.of.now) (map ty_of c.args.types.now) (map ty_of c.as_slice.result.now) e c.requires.legal, (function_for_each (chain_of c.args.of.now) (map ty_of c.args.types.now) (map ty_of c.as_slice.result.now) (map ty_of c.args.function.now) e c.requires.function, subst (Each (IsState (chain_of c.args.of.now) (map ty_of c.args.function.now))) (sym c.as_slice-in-Slots.ensures.value) (slots_here (chain_of c.args.of.now) c.args.state.now c.in-Slots.slots c.in-Slots.is (map ty_of c.args.function.now) c.requires.shape))))

pub slots::value_of_parts-values_of-requires : goal.slots::value_of_parts-values_of-requires
slots::value_of_parts-values_of-requires t c =
    (search rules, (legal_resample (chain_of c.args.of.now) (map ty_of c.args.types.now) (map ty_of c.front_types-inner.result.now) c.args.start c.args.end c.args.step c.front_types-inner.ensures c.requires.legal, (function_resample c.args.start c.args.end c.args.step (chain_of c.args.of.now) (map ty_of c.args.types.now) (map ty_of c.front_types-inner.result.now) (map ty_of c.args.function.now) c.front_types-inner.ensures c.requires.function, subst (Each (IsState (chain_of c.args.of.now) (map ty_of c.args.function.now))) (sym c.as_slice.ensures.value) (parts_here c.args.start c.args.end c.args.step (chain_of c.args.of.now) (map ty_of c.args.function.now) c.args.state.now c.in-Slots.parts c.in-Slots.is c.requires.shape))))

pub chains::value_over-returns-in-Leaf : goal.chains::value_over-returns-in-Leaf
chains::value_over-returns-in-Leaf t c =
    value_leaf c.args.chain.now (map ty_of c.args.types.now) (tree_in c.args.state.now) c.value_of_function.result _ c.in-Leaf.is c.value_of_function.ensures

pub chains::value_over-returns-in-If : goal.chains::value_over-returns-in-If
chains::value_over-returns-in-If t c =
    value_arm c.args.chain.now (map ty_of c.args.types.now) (tree_in c.args.state.now) c.value_when_met.result (λ o. chained.If o) (λ z. terms.If z) (λ o. chain_of-If o) _ c.get.result.now c.in-If.is c.get.ensures c.value_when_met.ensures

pub chains::value_over-returns-in-Array : goal.chains::value_over-returns-in-Array
chains::value_over-returns-in-Array t c =
    value_arm c.args.chain.now (map ty_of c.args.types.now) (tree_in c.args.state.now) c.value_of_elements.result (λ o. chained.Array o) (λ z. terms.Array z) (λ o. chain_of-Array o) _ c.get-in-Array.result.now c.in-Array.is c.get-in-Array.ensures c.value_of_elements.ensures

pub chains::value_over-returns-in-MapOf : goal.chains::value_over-returns-in-MapOf
chains::value_over-returns-in-MapOf t c =
    value_arm c.args.chain.now (map ty_of c.args.types.now) (tree_in c.args.state.now) c.value_at_keys.result (λ o. chained.MapOf o) (λ z. terms.MapOf z) (λ o. chain_of-MapOf o) _ c.get-in-MapOf.result.now c.in-MapOf.is c.get-in-MapOf.ensures c.value_at_keys.ensures

pub chains::value_over-returns-in-ForEach : goal.chains::value_over-returns-in-ForEach
chains::value_over-returns-in-ForEach t c =
    value_arm c.args.chain.now (map ty_of c.args.types.now) (tree_in c.args.state.now) c.value_of_slots.result (λ o. chained.ForEach o) (λ z. terms.ForEach z) (λ o. chain_of-ForEach o) _ c.get-in-ForEach.result.now c.in-ForEach.is c.get-in-ForEach.ensures c.value_of_slots.ensures

pub chains::value_over-returns-in-OrNull : goal.chains::value_over-returns-in-OrNull
chains::value_over-returns-in-OrNull t c =
    value_arm c.args.chain.now (map ty_of c.args.types.now) (tree_in c.args.state.now) c.value_or_null.result (λ o. chained.OrNull o) (λ z. terms.OrNull z) (λ o. chain_of-OrNull o) _ c.get-in-OrNull.result.now c.in-OrNull.is c.get-in-OrNull.ensures c.value_or_null.ensures

pub chains::value_over-returns-in-OrDefault : goal.chains::value_over-returns-in-OrDefault
chains::value_over-returns-in-OrDefault t c =
    value_arm c.args.chain.now (map ty_of c.args.types.now) (tree_in c.args.state.now) c.value_or_default.result (λ o. chained.OrDefault o) (λ z. terms.OrDefault z) (λ o. chain_of-OrDefault o) _ c.get-in-OrDefault.result.now c.in-OrDefault.is c.get-in-OrDefault.ensures c.value_or_default.ensures

pub chains::value_over-returns-in-Distinct : goal.chains::value_over-returns-in-Distinct
chains::value_over-returns-in-Distinct t c =
    value_arm c.args.chain.now (map ty_of c.args.types.now) (tree_in c.args.state.now) c.value_of_first.result (λ o. chained.Distinct o) (λ z. terms.Distinct z) (λ o. chain_of-Distinct o) _ c.get-in-Distinct.result.now c.in-Distinct.is c.get-in-Distinct.ensures c.value_of_first.ensures

pub chains::value_over-returns-in-State : goal.chains::value_over-returns-in-State
chains::value_over-returns-in-State t c =
    value_arm c.args.chain.now (map ty_of c.args.types.now) (tree_in c.args.state.now) c.state_value.result (λ o. chained.State o) (λ z. terms.State z) (λ o. chain_of-State o) _ c.get-in-State.result.now c.in-State.is c.get-in-State.ensures c.state_value.ensures

pub chains::value_over-returns-in-Resample : goal.chains::value_over-returns-in-Resample
chains::value_over-returns-in-Resample t c =
    let r = c.in-Resample in
    let low : to_z w64 (of_z w64 r.start) ≡ r.start = search rules in
    let high : to_z w64 (of_z w64 r.end) ≡ r.end = search rules in
    value_arm c.args.chain.now (map ty_of c.args.types.now) (tree_in c.args.state.now) c.value_of_parts.result (λ o. chained.Resample r.start r.end r.step o) (λ z. terms.Resample r.start r.end r.step z) (λ o. chain_of-Resample o r.start r.end r.step) _ c.get-in-Resample.result.now r.is c.get-in-Resample.ensures
    (subst (λ z. IfOk c.value_of_parts.result (λ v. MeansChain (terms.Resample z r.end r.step (chain_of c.get-in-Resample.result.now)) (map ty_of c.args.types.now) (tree_in c.args.state.now) (value_of v))) low
    (subst (λ z. IfOk c.value_of_parts.result (λ v. MeansChain (terms.Resample (to_z w64 (of_z w64 r.start)) z r.step (chain_of c.get-in-Resample.result.now)) (map ty_of c.args.types.now) (tree_in c.args.state.now) (value_of v))) high c.value_of_parts.ensures))

pub chains::value_over-returns-in_ok-inner-in-Merge : goal.chains::value_over-returns-in_ok-inner-in-Merge
chains::value_over-returns-in_ok-inner-in-Merge t c =
    value_arm c.args.chain.now (map ty_of c.args.types.now) (tree_in c.args.state.now) c.value_of_states.result (λ o. chained.Merge o) (λ z. terms.Merge z) (λ o. chain_of-Merge o) _ c.get-in-Merge.result.now c.in-Merge.is c.get-in-Merge.ensures c.value_of_states.ensures

pub first_rows::value_of_first-returns : goal.first_rows::value_of_first-returns
first_rows::value_of_first-returns t c =
    first_values (chain_of c.args.of.now) c.args.types.now c.requires.legal (map ty_of c.args.function.now) (rows_in c.deref.result.now) c.in_ok-inner-in-Rows.inner (tree_in c.args.state.now) c.value_over.result c.requires.function
    (ap tree_in c.in-Rows.is ∙ tree_Rows c.in-Rows.rows ∙ ap (λ z. rows_tree (rows_in z)) (sym c.deref.ensures)) c.in_ok-inner-in-Rows.ensures.rows c.value_over.ensures

pub keys::value_at_keys-returns : goal.keys::value_at_keys-returns
keys::value_at_keys-returns t c =
    let e : map ty_of c.as_slice.result.now ≡ inward (MapOf (chain_of c.args.of.now)) (map ty_of c.args.types.now) = search rules in
    keys_values (chain_of c.args.of.now) c.args.state.now c.in-Keyed.entries c.in-Keyed.is (map ty_of c.args.types.now) (map ty_of c.as_slice.result.now) c.in_ok-pairs-in-Keyed.pairs e
    (subst (λ z. MeanKeys (chain_of c.args.of.now) (map ty_of c.as_slice.result.now) (entries_in z) (map pair_value c.in_ok-pairs-in-Keyed.pairs)) c.as_slice-in-Keyed.ensures.value c.in_ok-pairs-in-Keyed.ensures)

pub slots::value_of_slots-returns : goal.slots::value_of_slots-returns
slots::value_of_slots-returns t c =
    let e : map ty_of c.as_slice.result.now ≡ inward (ForEach (chain_of c.args.of.now)) (map ty_of c.args.types.now) = search rules in
    slots_values (chain_of c.args.of.now) c.args.state.now c.in-Slots.slots c.in-Slots.is (map ty_of c.args.types.now) (map ty_of c.as_slice.result.now) c.in_ok-values-in-Slots.values e
    (subst (λ z. MeanSlots (chain_of c.args.of.now) (map ty_of c.as_slice.result.now) (map tree_in z) (map value_of c.in_ok-values-in-Slots.values)) c.as_slice-in-Slots.ensures.value c.in_ok-values-in-Slots.ensures)

pub slots::value_of_parts-returns : goal.slots::value_of_parts-returns
slots::value_of_parts-returns t c =
    parts_values c.args.start c.args.end c.args.step (chain_of c.args.of.now) (map ty_of c.args.function.now) c.args.state.now c.in-Slots.parts c.in-Slots.is c.requires.shape (map ty_of c.args.types.now) (map ty_of c.front_types-inner.result.now) c.in_ok-values-in-Slots.values c.front_types-inner.ensures
    (subst (λ z. MeanSlots (chain_of c.args.of.now) (map ty_of c.front_types-inner.result.now) (map tree_in z) (map value_of c.in_ok-values-in-Slots.values)) c.as_slice.ensures.value c.in_ok-values-in-Slots.ensures)
