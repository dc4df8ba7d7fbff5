use Rattle.std.proofs.lemmas.Result.{on_ok_weaker}
use Rattle.list_leaves.specs.Arrays.{held}
use Rattle.list_leaves.proofs.Items.{any_items_taken}
use Rattle.list_leaves.proofs.array.ArrayState.feed.Goals as goal

pub returns-clause-row : goal.returns-clause-row
returns-clause-row c =
    on_ok_weaker _
    (any_items_taken (λ t. held t c.args.self.now) (λ t. held t c.feed_items.new.self) c.as_slice.result.now c.args.row.now c.as_slice.ensures) c.feed_items.ensures.row
