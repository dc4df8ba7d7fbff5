use Rattle.std.proofs.Common.{length}
use Rattle.quick_rows.proofs.FrontDigits.{DigitsSoFar}
use Rattle.quick_rows.proofs.number.front_digits.Given as goal

abbrev pub invariant-loop-left : goal.invariant-loop-left
invariant-loop-left l = DigitsSoFar l.text l.left l.value

abbrev pub decreases-loop-left : goal.decreases-loop-left
decreases-loop-left l = length l.left
