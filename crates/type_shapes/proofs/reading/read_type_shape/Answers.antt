use Rattle.type_shapes.proofs.WholeRead.{whole_shape, whole_deep}
use Rattle.type_shapes.proofs.reading.read_type_shape.Goals as goal

pub returns-in-Some-2 : goal.returns-in-Some-2
returns-in-Some-2 c = whole_shape c.args.text.now c.in_ok-at.field-0 c.in_ok-shape.field-0 c.in-Some-2.shape c.in-Some-2.field-0-1 c.in_default.is c.in_ok-at.ensures c.in-Some-2.is c.in_ok-shape.ensures.read

pub returns-in-None : goal.returns-in-None
returns-in-None c = whole_deep c.args.text.now c.in_ok-at.field-0 c.in_ok-shape.field-0 c.in_default.is c.in_ok-at.ensures c.in-None.is c.in_ok-shape.ensures.read
