use Rattle.std.proofs.Common.{◌≡◌, to_z, of_z, rules}
use Rattle.std.specs.Int.{w128}
use Rattle.quick_rows.proofs.FrontDigits.{number_read}
use Rattle.quick_rows.proofs.number.front_number.Goals as goal

pub returns-else-left-digits : goal.returns-else-left-digits
returns-else-left-digits c =
    let whole : to_z w128 (of_z w128 c.signed.result) ≡ c.signed.result = search rules in
    rw whole
    (number_read c.args.text.now (c.split_sign-minus.result.0, c.split_sign-minus.result.1.now) c.in-Some.left.now c.in-Some.size c.signed.result c.split_sign-minus.ensures c.in-Some.ensures c.if-left-digits.false
    c.signed.ensures)
