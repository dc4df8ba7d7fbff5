use Rattle.std.proofs.Common.{ap, ap₂, rules, sym, ◌∙◌}
use Rattle.std.specs.List.{list_all}
use Rattle.std.proofs.lemmas.List.Folds.{list_all-map}
use Rattle.agg_terms.specs.Fitting.{has_slots, is_tree}
use Rattle.value_types.specs.Folds.{chain_of, entry_of, tree_of}
use Rattle.agg_values.specs.Peels.{peeled_types}
use Rattle.agg_values.proofs.Images.{keyed_at, slots_at}
use Rattle.agg_values.proofs.TreeLinks.{in_resample}
use Rattle.agg_values.proofs.trees.+trees.Goals as goal

pub slots_fit-returns-in-Slots : goal.slots_fit-returns-in-Slots
slots_fit-returns-in-Slots t c =
    let test = is_tree (chain_of c.args.of.now) (peeled_types c.args.peels.now c.args.types.now) in
    c.all_slots_fit.ensures ∙ ap (list_all (λ x. test (tree_of x))) c.as_slice.ensures ∙ sym (list_all-map test tree_of c.in-Slots.slots)
    ∙ sym (slots_at (list_all test) c.args.tree.now c.in-Slots.slots c.in-Slots.is)

pub trees_at_keys_fit-returns-in-Keyed : goal.trees_at_keys_fit-returns-in-Keyed
trees_at_keys_fit-returns-in-Keyed t c =
    let test = is_tree (chain_of c.args.of.now) (peeled_types c.args.peels.now c.args.types.now) in
    c.all_entries_fit.ensures ∙ ap (list_all (λ x. test (entry_of x).1)) c.as_slice.ensures ∙ sym (list_all-map (λ e. test e.1) entry_of c.in-Keyed.entries)
    ∙ sym (keyed_at (list_all (λ e. test e.1)) c.args.tree.now c.in-Keyed.entries c.in-Keyed.is)

pub tree_fits-returns-then-has_places : goal.tree_fits-returns-then-has_places
tree_fits-returns-then-has_places t c =
    let tree = tree_of c.args.tree.now in
    c.slots_fit-then-has_places.ensures
    ∙ ap₂ (λ of ts. has_slots (list_all (is_tree (chain_of of) (peeled_types c.args.peels.now ts))) tree) c.get-then-has_places.ensures c.front-then-has_places.ensures
    ∙ sym (in_resample c.args.chain.now c.args.types.now tree c.args.peels.now c.in-Resample.start c.in-Resample.end c.in-Resample.step c.in-Resample.of c.in-Resample.is
    (search rules))
