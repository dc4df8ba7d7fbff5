use Rattle.std.proofs.Common.{◌≤◌}
use Rattle.state_cases.proofs.cases.cut_short.Given as goal

-- each place is counted once at most
abbrev pub invariant-loop-at : goal.invariant-loop-at
invariant-loop-at l = l.count ≤ l.at
