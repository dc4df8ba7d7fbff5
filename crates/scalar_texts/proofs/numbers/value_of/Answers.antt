use Rattle.std.proofs.Common.{arith}
use Rattle.scalar_texts.proofs.Digits.{whole_is_above}
use Rattle.scalar_texts.proofs.numbers.value_of.Goals as goal

pub returns-in-None : goal.returns-in-None
returns-in-None c =
    let above = whole_is_above c.loop-c.value c.args.digits.now c.loop-c.c-index _ c.loop-c.invariant (omega arith) c.requires in
    omega (arith, above)

pub returns-in-None-checked_add : goal.returns-in-None-checked_add
returns-in-None-checked_add c =
    let above = whole_is_above c.loop-c.value c.args.digits.now c.loop-c.c-index _ c.loop-c.invariant (omega arith) c.requires in
    omega (arith, above, c.in-Some.ensures, c.in-None-checked_add.ensures)
