use Rattle.std.proofs.Common.{◌-◌, length}
use Rattle.quick_rows.proofs.FrontDigits.{CountedDigits}
use Rattle.quick_rows.proofs.number.digit_count.Given as goal

abbrev pub invariant-loop-count : goal.invariant-loop-count
invariant-loop-count l = CountedDigits l.text l.count

abbrev pub decreases-loop-count : goal.decreases-loop-count
decreases-loop-count l = length l.text - l.count
