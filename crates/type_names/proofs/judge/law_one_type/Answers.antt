use Rattle.type_names.proofs.OneType.{one_type}
use Rattle.type_names.proofs.judge.law_one_type.Goals as goal

pub returns : goal.returns
returns c = one_type
