use Rattle.std.proofs.Common.{◌-◌, length}
use Rattle.quick_rows.proofs.FrontDigits.{FewDigits}
use Rattle.quick_rows.proofs.number.few_digits.Given as goal

abbrev pub invariant-loop-count : goal.invariant-loop-count
invariant-loop-count l = FewDigits l.text l.count l.value

abbrev pub decreases-loop-count : goal.decreases-loop-count
decreases-loop-count l = length l.text - l.count
