use Rattle.type_laws.proofs.Patterns.{patterns_read_back}
use Rattle.type_laws.proofs.laws.law_patterns_read_back.Goals as goal

pub returns : goal.returns
returns c = patterns_read_back
