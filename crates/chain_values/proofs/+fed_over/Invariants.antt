-- Measures and loop invariants of the cycle of chain_values::chains::fed_over.
use Rattle.std.proofs.Common.{map, take}
use Rattle.value_types.specs.Folds.{chain_of, ty_of}
use Rattle.running_states.specs.Trees.{tree_in}
use Rattle.running_states.specs.Entries.{entries_in}
use Rattle.chain_values.specs.proving.Finished.{AreFed, AreKeysFed}
use Rattle.chain_values.proofs.+fed_over.Given as goal

abbrev pub invariant-slots::some_fed-loop-i : goal.invariant-slots::some_fed-loop-i
invariant-slots::some_fed-loop-i l = AreFed (chain_of l.of) (map ty_of l.types) (map tree_in (take l.i l.slots)) l.is_fed

abbrev pub invariant-keys::some_key_fed-loop-i : goal.invariant-keys::some_key_fed-loop-i
invariant-keys::some_key_fed-loop-i l = AreKeysFed (chain_of l.of) (map ty_of l.types) (entries_in (take l.i l.entries)) l.is_fed
