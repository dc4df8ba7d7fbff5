use Rattle.best_leaves.proofs.States.{fresh_stands}
use Rattle.best_leaves.proofs.state.BestState.fresh.Goals as goal

pub returns : goal.returns
returns c = fresh_stands _ _ _ c.new.ensures
