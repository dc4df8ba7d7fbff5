use Rattle.quick_rows.proofs.FrontDigits.{number_begins}
use Rattle.quick_rows.proofs.number.front_size.Goals as goal

pub returns : goal.returns
returns c =
    let found = c.few_digits-size.ensures in
    number_begins c.args.text.now _ c.few_digits-size.result.1 c.few_digits-size.result.0 found.within c.if-count-eq0.false found.digits (found.value c.if-count-gt-FEW_DIGITS.false) c.split_at.ensures.back
