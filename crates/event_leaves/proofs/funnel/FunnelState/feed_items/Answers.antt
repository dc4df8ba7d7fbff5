use Rattle.std.proofs.Common.{map}
use Rattle.std.proofs.lemmas.Result.{on_ok_weaker}
use Rattle.event_leaves.specs.Rows.{argument}
use Rattle.event_leaves.proofs.Funnels.{row_taken}
use Rattle.event_leaves.proofs.funnel.FunnelState.feed_items.Goals as goal

pub returns-clause-row : goal.returns-clause-row
returns-clause-row c =
    on_ok_weaker _ (row_taken c.args.self.now.window c.args.self.now.is_strict c.args.self.now.rows c.feed.new.self (map argument c.args.row.now) c.feed.ensures.sound) c.feed.ensures.ok
