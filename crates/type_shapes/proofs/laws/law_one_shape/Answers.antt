use Rattle.type_shapes.proofs.OneShape.{one_shape_answer}
use Rattle.type_shapes.proofs.laws.law_one_shape.Goals as goal

pub returns : goal.returns
returns c = one_shape_answer c.law_one_type.ensures c.law_one_answer.ensures
