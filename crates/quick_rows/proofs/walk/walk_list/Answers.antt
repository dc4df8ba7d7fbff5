use Rattle.std.proofs.Common.{◌-◌, drop, length, take, arith}
use Rattle.quick_rows.specs.proving.Walking.{element_ty}
use Rattle.quick_rows.proofs.Fronts.{front_two}
use Rattle.quick_rows.proofs.Walks.{none_walked}
use Rattle.quick_rows.proofs.walk.walk_list.Goals as goal

pub returns-in-91 : goal.returns-in-91
returns-in-91 c =
    let text = c.args.text.now in
    none_walked (element_ty c.args.kind) text (take (length text - 2) (drop 2 text)) (front_two text 91 93 (omega arith) (omega arith) (omega arith))
