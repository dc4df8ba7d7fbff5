use Rattle.type_laws.proofs.Types.{printed_types_are_read}
use Rattle.type_laws.proofs.laws.law_printed_types_are_read.Goals as goal

pub returns : goal.returns
returns c = printed_types_are_read c.law_types_read_back.ensures
