use Rattle.std.proofs.lemmas.Result.{on_ok_weaker}
use Rattle.list_leaves.specs.Quantiles.{held}
use Rattle.list_leaves.proofs.Items.{items_taken}
use Rattle.list_leaves.proofs.quantile.QuantileState.feed.Goals as goal

pub returns-clause-row : goal.returns-clause-row
returns-clause-row c =
    on_ok_weaker _ (items_taken (held c.args.self.now) (held c.feed_items.new.self) c.as_slice.result.now c.args.row.now c.as_slice.ensures) c.feed_items.ensures.row
