use Rattle.std.proofs.Common.{arith}
use Rattle.quick_rows.proofs.FrontDigits.{digits_read, one_digit_more}
use Rattle.quick_rows.proofs.number.front_digits.Goals as goal

pub loop-left-preserved : goal.loop-left-preserved
loop-left-preserved c =
    rw c.from.ensures (one_digit_more c.args.text.now c.loop-left.left.now c.loop-left.value c.loop-left.invariant (omega arith) (grind arith))

pub returns : goal.returns
returns c = digits_read c.args.text.now c.loop-left.left.now c.loop-left.value c.loop-left.invariant
