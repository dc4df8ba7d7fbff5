use Rattle.std.proofs.Common.{rules}
use Rattle.state_codec.proofs.Fresh.{all_moved, none_moved, one_moved}
use Rattle.state_codec.proofs.distinct.rows_of.Goals as goal

pub loop-tuple-init : goal.loop-tuple-init
loop-tuple-init c = none_moved _ _ _ (search rules) c.into_iter-tuple-iterator.ensures.into_iter_gives.0

pub loop-tuple-preserved : goal.loop-tuple-preserved
loop-tuple-preserved c = one_moved c.loop-tuple.rows _ c.loop-tuple.tuple-iterator _ c.in-Some.tuple _ c.in-Some.ensures.steps c.in_ok-push.ensures.ok c.loop-tuple.invariant

pub returns : goal.returns
returns c = all_moved c.loop-tuple.rows c.loop-tuple.tuple-iterator _ c.in-None.ensures.steps.0 c.loop-tuple.invariant
