use Rattle.state_codec.proofs.Fields.{legal_has}
use Rattle.state_codec.proofs.codec.law_legal_types_have_states.Goals as goal

pub returns : goal.returns
returns c = λ t e. legal_has t e
