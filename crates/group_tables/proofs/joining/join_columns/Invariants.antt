use Rattle.std.proofs.Common.{map}
use Rattle.state_columns.specs.Trees.{trees_in}
use Rattle.group_tables.proofs.CallColumns.{ChangedSoFar, Joined}
use Rattle.group_tables.proofs.joining.join_columns.Given as goal

abbrev pub invariant-loop-i : goal.invariant-loop-i
invariant-loop-i l = ChangedSoFar l.calls (Joined l.count l.places (map trees_in l.later)) l.initial.states.items l.states.items l.i
