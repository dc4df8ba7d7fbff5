-- Measures and loop invariants of chain_values::fitting::feed_batch.
use Rattle.std.proofs.Common.{map, take}
use Rattle.value_types.specs.Folds.{chain_of, ty_of}
use Rattle.running_states.specs.Shapes.{IsState}
use Rattle.chain_links.specs.proving.Words.{FeedsAll}
use Rattle.chain_values.specs.proving.Fitting.{rows_of}
use Rattle.chain_values.proofs.fitting.feed_batch.Given as goal

abbrev pub invariant-loop-i : goal.invariant-loop-i
invariant-loop-i l =
    IsState (chain_of l.chain) (map ty_of l.function) l.state × FeedsAll (chain_of l.chain) (map ty_of l.function) (take l.i (rows_of l.batch)) l.fn.state l.state
