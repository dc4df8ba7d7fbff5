-- Measures and loop invariants of chain_states::lending::feed_lent.
use Rattle.std.proofs.Common.{map, take}
use Rattle.value_types.specs.Folds.{chain_of, ty_of}
use Rattle.chain_states.specs.proving.Places.{AreStates, FeedsAt, row_of, rows_from, with_condition, with_if}
use Rattle.chain_states.proofs.lending.feed_lent.Given as goal

abbrev pub invariant-loop-i : goal.invariant-loop-i
invariant-loop-i l =
    AreStates (chain_of l.chain) (map ty_of l.types) l.states.items
    × FeedsAt (with_if l.conditions (chain_of l.chain)) (map ty_of l.types) (take l.i l.places) (rows_from (with_condition (λ all. all.now) l.conditions (row_of l.columns l.arguments)) l.from l.i) l.fn.states.items l.states.items
