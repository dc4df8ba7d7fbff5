use Rattle.shape_types.proofs.AllowedParts.{allowed_parts}
use Rattle.shape_types.proofs.laws.law_allowed_parts.Goals as goal

pub returns : goal.returns
returns c = allowed_parts c.law_typing.ensures.allowed_state_is_legal
