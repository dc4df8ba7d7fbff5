use Rattle.std.proofs.Common.{◌≡◌, drop}
use Rattle.std.specs.List.{list_all}
use Rattle.agg_terms.specs.Fitting.{is_tree}
use Rattle.value_types.specs.Folds.{chain_of, entry_of, tree_of}
use Rattle.agg_values.specs.Peels.{peeled_types}
use Rattle.agg_values.proofs.trees.+trees.Given as goal

-- what is left decides
abbrev pub invariant-all_slots_fit-loop-i : goal.invariant-all_slots_fit-loop-i
invariant-all_slots_fit-loop-i l =
    list_all (λ t. is_tree (chain_of l.of) (peeled_types l.peels l.types) (tree_of t)) (drop l.i l.slots)
    ≡ list_all (λ t. is_tree (chain_of l.of) (peeled_types l.peels l.types) (tree_of t)) l.slots

abbrev pub invariant-all_entries_fit-loop-i : goal.invariant-all_entries_fit-loop-i
invariant-all_entries_fit-loop-i l =
    list_all (λ e. is_tree (chain_of l.of) (peeled_types l.peels l.types) (entry_of e).1) (drop l.i l.entries)
    ≡ list_all (λ e. is_tree (chain_of l.of) (peeled_types l.peels l.types) (entry_of e).1) l.entries
