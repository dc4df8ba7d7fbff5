use Rattle.history_core.proofs.Runs.{legal}
use Rattle.history_core.proofs.law_core.Goals as goal

pub returns : goal.returns
returns c = λ events rises. legal events rises
