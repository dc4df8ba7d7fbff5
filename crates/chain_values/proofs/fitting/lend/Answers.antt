-- Answers for chain_values::fitting::lend.
use Rattle.std.proofs.Common.{◌∙◌}
use Rattle.chain_values.proofs.Fitted.{lent}
use Rattle.chain_values.proofs.fitting.lend.Goals as goal

pub loop-i-preserved : goal.loop-i-preserved
loop-i-preserved c = c.push.ensures ∙ lent c.args.view.now c.loop-i.row c.loop-i.i _ c.item.ensures c.loop-i.invariant
