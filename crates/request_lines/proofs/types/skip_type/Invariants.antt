use Rattle.std.proofs.Common.{length}
use Rattle.request_lines.proofs.TypesSkipped.{IsSkipping}
use Rattle.request_lines.proofs.types.skip_type.Given as goal

abbrev pub invariant-loop-goal : goal.invariant-loop-goal
invariant-loop-goal l = IsSkipping l.rest l.left l.goals

abbrev pub decreases-loop-goal : goal.decreases-loop-goal
decreases-loop-goal l = length l.left.text.now
