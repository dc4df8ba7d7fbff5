use Rattle.shape_types.proofs.LegalTypes.{read_legal}
use Rattle.shape_types.proofs.laws.law_read_types_are_legal.Goals as goal

pub returns : goal.returns
returns c = read_legal c.law_typing.ensures.allowed_state_is_legal
