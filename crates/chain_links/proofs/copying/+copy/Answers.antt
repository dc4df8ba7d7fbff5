-- Answers of the goals that the search leaves open in chain_links::copying::copy.
use Rattle.std.proofs.Common.{◌≡◌, rules, arith, map, length, sym, ap, ◌∙◌, subst}
use Rattle.std.proofs.lemmas.List.{take_all}
use Rattle.agg_terms.specs.Chains.{ForEach, MapOf, Resample}
use Rattle.agg_terms.specs.Values.{keyed_tree}
use Rattle.value_types.specs.Folds.{chain_of, ty_of}
use Rattle.value_types.proofs.FoldLaws.{chain_laws}
use Rattle.running_states.specs.Entries.{entries_in}
use Rattle.running_states.specs.Shapes.{AreKeyed, IsState}
use Rattle.running_states.proofs.Layers.{out_Keyed, tree_Keyed}
use Rattle.chain_links.proofs.Shaped.{copied_rise, keys_shaped, parts_held, parts_shaped, slots_shaped}
use Rattle.chain_links.proofs.copying.+copy.Goals as goal

pub copy-returns-in-Keyed-clause-shape : goal.copy-returns-in-Keyed-clause-shape
copy-returns-in-Keyed-clause-shape t c =
    let e : chain_of c.args.chain.now ≡ MapOf (chain_of c.get-in-Keyed.result.now) = search (rules, chain_laws) in
    keys_shaped c.copy_entries.result (chain_of c.args.chain.now) (chain_of c.get-in-Keyed.result.now) (map ty_of c.args.types.now) e c.copy_entries.ensures.shape

pub copy-returns-in-Slots-clause-shape : goal.copy-returns-in-Slots-clause-shape
copy-returns-in-Slots-clause-shape t c =
    let e : chain_of c.args.chain.now ≡ ForEach (chain_of c.get-in-Slots.result.now) = search (rules, chain_laws) in
    slots_shaped c.copy_slots.result (chain_of c.args.chain.now) (chain_of c.get-in-Slots.result.now) (map ty_of c.args.types.now) (length c.as_slice-in-Slots.result.now) e c.copy_slots.ensures.shape

pub copy-returns-in-Slots-state-clause-shape : goal.copy-returns-in-Slots-state-clause-shape
copy-returns-in-Slots-state-clause-shape t c =
    let r = c.in-Resample in
    let d = chain_of c.args.chain.now in
    let o = chain_of c.get-in-Slots-state.result.now in
    let us = map ty_of c.args.types.now in
    let e : chain_of c.args.chain.now ≡ Resample r.field-0 r.field-1 r.field-2 (chain_of c.get-in-Slots-state.result.now) = search (rules, chain_laws) in
    let n = ap length c.as_slice-in-Slots-state.ensures.value ∙ (parts_held d o us c.args.state.now r.field-0 r.field-1 r.field-2 c.in-Slots-state.parts e c.in-Slots-state.is c.requires).0 in
    parts_shaped c.copy_slots-in-Slots-state.result d o us r.field-0 r.field-1 r.field-2 (length c.as_slice-in-Slots-state.result.now) e n c.copy_slots-in-Slots-state.ensures.shape

pub copy_entries-returns-clause-shape : goal.copy_entries-returns-clause-shape
copy_entries-returns-clause-shape t c =
    let same : entries_in c.loop-i.all.items ≡ entries_in c.args.entries.now = c.loop-i.invariant.1 ∙ ap entries_in (take_all c.loop-i.i c.args.entries.now (omega arith)) in
    subst (AreKeyed (IsState (chain_of c.args.of.now) (map ty_of c.args.types.now))) (sym (out_Keyed c.loop-i.all))
    (c.loop-i.invariant.0, copied_rise c.loop-i.all.items c.args.entries.now same c.requires.1)

pub copy_entries-returns-clause-tree : goal.copy_entries-returns-clause-tree
copy_entries-returns-clause-tree t c =
    let same : entries_in c.loop-i.all.items ≡ entries_in c.args.entries.now = c.loop-i.invariant.1 ∙ ap entries_in (take_all c.loop-i.i c.args.entries.now (omega arith)) in
    tree_Keyed c.loop-i.all ∙ ap keyed_tree same
