-- Answers for chain_states::placing::feed_inner.
use Rattle.chain_states.proofs.ByPlace.{inner_states, outer_states}
use Rattle.chain_states.proofs.placing.feed_inner.Goals as goal

pub feed_if-requires-clause-shape : goal.feed_if-requires-clause-shape
feed_if-requires-clause-shape c = inner_states _ _ _ _ _ c.in-If.is c.get.ensures c.requires.shape

pub returns-then-branch-clause-shape : goal.returns-then-branch-clause-shape
returns-then-branch-clause-shape c = outer_states _ _ _ _ _ c.in-If.is c.get.ensures c.in_ok-feed_if.ensures.shape
