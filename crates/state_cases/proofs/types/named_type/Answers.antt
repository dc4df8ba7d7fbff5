use Rattle.value_types.specs.Folds.{ty_of}
use Rattle.state_cases.proofs.types.named_type.Goals as goal

pub returns-in-Ok-type_of : goal.returns-in-Ok-type_of
returns-in-Ok-type_of c = c.law_read_types_are_legal.ensures c.args.text.now c.in-Ok.shape (ty_of c.in-Ok-type_of.ty) c.in-Ok.ensures c.in-Ok-type_of.ensures
