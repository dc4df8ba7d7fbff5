use Rattle.std.proofs.Common.{arith}
use Rattle.std.proofs.lemmas.Int.Digits.{digits_value_more}
use Rattle.line_tokens.proofs.Digits.{too_large}
use Rattle.line_tokens.proofs.numbers.is_small.Goals as goal

pub returns-then-number : goal.returns-then-number
returns-then-number c = too_large c.loop-digit.number c.args.digits.now c.loop-digit.digit-index c.loop-digit-test.true c.loop-digit.invariant c.if-number.true

pub loop-digit-preserved : goal.loop-digit-preserved
loop-digit-preserved c =
    omega (arith, digits_value_more 10 c.args.digits.now c.loop-digit.digit-index c.loop-digit-test.true, c.loop-digit.invariant, c.digit_value.ensures, c.from.ensures)
