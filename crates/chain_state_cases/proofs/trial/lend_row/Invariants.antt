use Rattle.std.proofs.Common.{◌≡◌, length}
use Rattle.chain_state_cases.proofs.trial.lend_row.Given as goal

abbrev pub invariant-loop-i : goal.invariant-loop-i
invariant-loop-i l = length l.row ≡ l.i
