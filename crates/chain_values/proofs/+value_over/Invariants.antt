-- Measures and loop invariants of the cycle of chain_values::chains::value_over.
use Rattle.std.proofs.Common.{map, take}
use Rattle.value_types.specs.Folds.{chain_of, ty_of, value_of}
use Rattle.row_parts.specs.Rows.{pair_value}
use Rattle.running_states.specs.Trees.{tree_in}
use Rattle.running_states.specs.Entries.{entries_in}
use Rattle.chain_values.specs.proving.Finished.{MeanKeys, MeanSlots}
use Rattle.chain_values.proofs.+value_over.Given as goal

abbrev pub invariant-slots::values_of-loop-i : goal.invariant-slots::values_of-loop-i
invariant-slots::values_of-loop-i l = MeanSlots (chain_of l.of) (map ty_of l.types) (map tree_in (take l.i l.slots)) (map value_of l.values)

abbrev pub invariant-keys::pairs_of-loop-i : goal.invariant-keys::pairs_of-loop-i
invariant-keys::pairs_of-loop-i l = MeanKeys (chain_of l.of) (map ty_of l.types) (entries_in (take l.i l.entries)) (map pair_value l.pairs)
