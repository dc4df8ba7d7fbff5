-- Measures and loop invariants of chain_states::lending::lend_row.
use Rattle.std.proofs.Common.{◌≡◌, map, take}
use Rattle.agg_meaning.specs.Views.{items_at}
use Rattle.value_types.specs.Folds.{value_of}
use Rattle.chain_states.specs.Calls.{batch_row}
use Rattle.chain_states.proofs.lending.lend_row.Given as goal

abbrev pub invariant-loop-i : goal.invariant-loop-i
invariant-loop-i l = map value_of l.row ≡ items_at (take l.i l.arguments) (batch_row l.columns l.number)
