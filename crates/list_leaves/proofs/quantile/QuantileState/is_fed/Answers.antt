use Rattle.list_leaves.proofs.Quantiles.{fed_when}
use Rattle.list_leaves.proofs.quantile.QuantileState.is_fed.Goals as goal

pub returns : goal.returns
returns c = fed_when c.args.self.now.made c.args.self.now.numbers c.is_empty.result c.is_empty.ensures.0 c.is_empty.ensures.1
