use Rattle.std.proofs.Common.{arith}
use Rattle.type_shapes.proofs.Digits.{digit_fits}
use Rattle.type_shapes.proofs.literal.with_digits.Goals as goal

pub overflow_mul-number : goal.overflow_mul-number
overflow_mul-number c = let fits = digit_fits c.loop-left.number c.loop-left.left.now 0 c.in-len1-up.len_at_least c.loop-left.invariant.1 in omega (arith, fits)

pub overflow_add-number : goal.overflow_add-number
overflow_add-number c = let fits = digit_fits c.loop-left.number c.loop-left.left.now 0 c.in-len1-up.len_at_least c.loop-left.invariant.1 in omega (arith, fits, c.digit_value.ensures, c.from.ensures)
