use Rattle.std.proofs.Common.{arith}
use Rattle.quick_rows.proofs.Walks.{digits_passed}
use Rattle.quick_rows.proofs.walk.walk_number.Goals as goal

pub returns : goal.returns
returns c =
    let count = c.digit_count-count.result in
    digits_passed c.args.kind c.args.text.now _ count c.digit_count-count.ensures.within c.digit_count-count.ensures.digits c.if-count-eq0.false
    (omega (arith, c.if-count-safe_digits.false, c.safe_digits.ensures)) c.split_at.ensures.back
