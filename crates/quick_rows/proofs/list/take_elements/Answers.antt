use Rattle.std.proofs.Common.{◌-◌, drop, length, take, arith}
use Rattle.quick_rows.proofs.Fronts.{front_two}
use Rattle.quick_rows.proofs.ListLaws.{listed_empty}
use Rattle.quick_rows.proofs.list.take_elements.Goals as goal

pub returns-in-91 : goal.returns-in-91
returns-in-91 c =
    let text = c.args.text.now in
    listed_empty c.args.elements.now text (take (length text - 2) (drop 2 text)) (front_two text 91 93 (omega arith) (omega arith) (omega arith))
