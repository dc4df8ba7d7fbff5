use Rattle.std.proofs.Common.{length}
use Rattle.quick_rows.proofs.Walks.{WalkedNumbers}
use Rattle.quick_rows.proofs.walk.walk_numbers.Given as goal

abbrev pub invariant-loop-number : goal.invariant-loop-number
invariant-loop-number l = WalkedNumbers l.kind l.inside l.left

abbrev pub decreases-loop-number : goal.decreases-loop-number
decreases-loop-number l = length l.left
