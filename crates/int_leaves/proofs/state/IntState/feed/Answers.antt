use Rattle.int_leaves.proofs.Arguments.{row_taken}
use Rattle.int_leaves.proofs.state.IntState.feed.Goals as goal

pub returns-clause-row : goal.returns-clause-row
returns-clause-row c = row_taken c.args.self.now c.feed_items.new.self c.as_slice.result.now c.args.row.now c.as_slice.ensures c.feed_items.ensures.row
