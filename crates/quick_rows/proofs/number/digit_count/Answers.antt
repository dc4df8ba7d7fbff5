use Rattle.quick_rows.proofs.FrontDigits.{counted_digits}
use Rattle.quick_rows.proofs.number.digit_count.Goals as goal

pub returns-after-loop-count-clause-digits : goal.returns-after-loop-count-clause-digits
returns-after-loop-count-clause-digits c = counted_digits c.args.text.now c.loop-count.count c.loop-count.invariant

pub returns-then-not-is_ascii_digit-clause-digits : goal.returns-then-not-is_ascii_digit-clause-digits
returns-then-not-is_ascii_digit-clause-digits c = counted_digits c.args.text.now c.loop-count.count c.loop-count.invariant
