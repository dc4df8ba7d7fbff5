use Rattle.std.proofs.Common.{length}
use Rattle.quick_rows.proofs.Walks.{WalkedTexts}
use Rattle.quick_rows.proofs.walk.walk_texts.Given as goal

abbrev pub invariant-loop-behind : goal.invariant-loop-behind
invariant-loop-behind l = WalkedTexts l.inside l.left

abbrev pub decreases-loop-behind : goal.decreases-loop-behind
decreases-loop-behind l = length l.left
