use Rattle.result_laws.proofs.Meanings as meanings
use Rattle.result_laws.proofs.law_meanings_fit.Goals as goal

pub returns : goal.returns
returns c = λ d ts L l w k. meanings.meaning_fits d ts L l w k
