use Rattle.std.proofs.Common.{◌-◌, drop, length, take, arith}
use Rattle.quick_rows.specs.proving.Walking.{element_ty}
use Rattle.quick_rows.proofs.Fronts.{front_two}
use Rattle.quick_rows.proofs.Walks.{null_walked}
use Rattle.quick_rows.proofs.walk.walk_nullable.Goals as goal

pub returns-in-92 : goal.returns-in-92
returns-in-92 c =
    let text = c.args.text.now in
    null_walked (element_ty c.args.kind) text (take (length text - 2) (drop 2 text)) (front_two text 92 78 (omega arith) (omega arith) (omega arith))
