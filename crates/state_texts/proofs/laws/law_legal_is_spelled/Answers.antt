use Rattle.state_texts.proofs.Legal.{legal_spelled}
use Rattle.state_texts.proofs.laws.law_legal_is_spelled.Goals as goal

pub returns : goal.returns
returns c = λ chain types l. legal_spelled chain types l
