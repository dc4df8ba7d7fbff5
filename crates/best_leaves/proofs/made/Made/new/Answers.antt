use Rattle.best_leaves.proofs.Making.{made_is}
use Rattle.best_leaves.proofs.made.Made.new.Goals as goal

pub returns : goal.returns
returns c = made_is _ _ _ _ _ c.function_of.ensures c.first_kind.ensures c.any_nullable.ensures c.requires
