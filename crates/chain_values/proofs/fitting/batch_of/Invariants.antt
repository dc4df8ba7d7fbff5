-- Measures and loop invariants of chain_values::fitting::batch_of.
use Rattle.std.proofs.Common.{◌≡◌, map, take}
use Rattle.distinct_rows.specs.Rows.{rows_in}
use Rattle.value_types.specs.Folds.{ty_of}
use Rattle.chain_values.specs.proving.Fitting.{HasRows}
use Rattle.chain_values.proofs.fitting.batch_of.Given as goal

abbrev pub invariant-loop-i : goal.invariant-loop-i
invariant-loop-i l = (l.batch.types ≡ l.types) × HasRows (map ty_of l.types) (take l.i (rows_in l.rows)) l.batch
