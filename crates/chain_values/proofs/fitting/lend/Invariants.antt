-- Measures and loop invariants of chain_values::fitting::lend.
use Rattle.std.proofs.Common.{◌≡◌, take}
use Rattle.chain_values.proofs.fitting.lend.Given as goal

abbrev pub invariant-loop-i : goal.invariant-loop-i
invariant-loop-i l = l.row ≡ take l.i l.view
