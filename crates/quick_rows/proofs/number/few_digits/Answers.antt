use Rattle.std.proofs.Common.{◌+◌, ◌*◌, ◌%◌, ◌^◌, ap, arith}
use Rattle.quick_rows.proofs.FrontDigits.{counted_digits, few_more}
use Rattle.quick_rows.proofs.number.few_digits.Goals as goal

pub loop-count-preserved : goal.loop-count-preserved
loop-count-preserved c =
    few_more c.args.text.now c.loop-count.count c.loop-count.value _ c.loop-count.invariant (omega arith) (grind arith) (ap (λ n. (c.loop-count.value * 10 % 2 ^ 64 + n) % 2 ^ 64) c.from.ensures)

pub returns-after-loop-count-clause-digits : goal.returns-after-loop-count-clause-digits
returns-after-loop-count-clause-digits c = counted_digits c.args.text.now c.loop-count.count c.loop-count.invariant.counted

pub returns-then-not-is_ascii_digit-clause-digits : goal.returns-then-not-is_ascii_digit-clause-digits
returns-then-not-is_ascii_digit-clause-digits c = counted_digits c.args.text.now c.loop-count.count c.loop-count.invariant.counted
