use Rattle.std.proofs.Common.{◌-◌}
use Rattle.group_tables.proofs.CallColumns.{ChangedSoFar, Fed}
use Rattle.group_tables.proofs.calls.feed_calls.Given as goal

abbrev pub invariant-loop-i : goal.invariant-loop-i
invariant-loop-i l = ChangedSoFar l.calls (Fed l.count l.places l.columns l.from (l.to - l.from)) l.initial.states.items l.states.items l.i
