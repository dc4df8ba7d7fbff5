use Rattle.std.proofs.Common.{refl}
use Rattle.scalar_texts.specs.Numbers.{signed}
use Rattle.quick_rows.proofs.FrontDigits.{number_read}
use Rattle.quick_rows.proofs.walk.front_sized.Goals as goal

pub returns-else-left-digits : goal.returns-else-left-digits
returns-else-left-digits c =
    number_read c.args.text.now (c.split_sign-minus.result.0, c.split_sign-minus.result.1.now) c.in-Some.left.now c.in-Some.size (signed c.split_sign-minus.result.0 c.in-Some.size) c.split_sign-minus.ensures
    c.in-Some.ensures c.if-left-digits.false refl
