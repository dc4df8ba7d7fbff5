-- Answers for chain_values::fitting::feed_batch.
use Rattle.std.proofs.Common.{◌<◌, ◌∙◌, map, subst}
use Rattle.value_types.specs.Folds.{chain_of, ty_of}
use Rattle.chain_values.proofs.Fitted.{feeds_more}
use Rattle.chain_values.proofs.fitting.feed_batch.Goals as goal

pub loop-i-preserved : goal.loop-i-preserved
loop-i-preserved c = (
  c.in_ok-feed.ensures.shape,
  feeds_more (chain_of c.args.chain.now) (map ty_of c.args.function.now) c.args.batch.now c.loop-i.i c.row.result c.as_slice.result.now c.args.state.now c.loop-i.state c.feed.new.state
      (subst (λ n. c.loop-i.i < n) c.len-i-end.ensures.count c.loop-i-test.true) c.row.ensures.at (c.as_slice.ensures ∙ c.lend.ensures) c.loop-i.invariant.1 c.in_ok-feed.ensures.row,
)
