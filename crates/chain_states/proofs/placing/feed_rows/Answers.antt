-- Answers for chain_states::placing::feed_rows.
use Rattle.std.proofs.Common.{map}
use Rattle.value_types.specs.Folds.{chain_of, ty_of}
use Rattle.chain_states.proofs.Inside.{rows_outward}
use Rattle.chain_states.proofs.placing.feed_rows.Goals as goal

pub returns-clause-rows : goal.returns-clause-rows
returns-clause-rows c = rows_outward (chain_of c.args.chain.now) (chain_of c.inside-inner.result.now) c.inside-inner.ensures (map ty_of c.args.types.now) c.feed_kept.result c.args.conditions _ _ _ _ c.feed_kept.ensures.rows
