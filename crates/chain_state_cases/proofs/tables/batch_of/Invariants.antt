use Rattle.std.proofs.Common.{◌≡◌}
use Rattle.chain_state_cases.proofs.tables.batch_of.Given as goal

abbrev pub invariant-loop-line : goal.invariant-loop-line
invariant-loop-line l = l.batch.types ≡ l.types
