-- Measures and loop invariants of chain_links::copying::copy.
use Rattle.std.proofs.Common.{◌≡◌, map, take}
use Rattle.agg_terms.specs.Lists.{Each}
use Rattle.value_types.specs.Folds.{chain_of, ty_of}
use Rattle.running_states.specs.Shapes.{IsState}
use Rattle.running_states.specs.Trees.{tree_in}
use Rattle.running_states.specs.Entries.{entries_in}
use Rattle.chain_links.proofs.copying.+copy.Given as goal

abbrev pub invariant-copy_slots-loop-i : goal.invariant-copy_slots-loop-i
invariant-copy_slots-loop-i l =
    Each (IsState (chain_of l.of) (map ty_of l.types)) l.all.items × (map tree_in l.all.items ≡ map tree_in (take l.i l.slots))

abbrev pub invariant-copy_entries-loop-i : goal.invariant-copy_entries-loop-i
invariant-copy_entries-loop-i l =
    Each (λ e. IsState (chain_of l.of) (map ty_of l.types) e.1) l.all.items × (entries_in l.all.items ≡ entries_in (take l.i l.entries))
