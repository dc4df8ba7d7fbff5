use Rattle.std.proofs.Common.{◌∙◌, ap₂}
use Rattle.std.proofs.lemmas.Result.{on_ok_weaker}
use Rattle.list_leaves.specs.Kept.{kept_values}
use Rattle.list_leaves.specs.Limits.{room_for}
use Rattle.list_leaves.proofs.Arrays.{any_rows_joined}
use Rattle.list_leaves.proofs.array.ArrayState.merge.Goals as goal

pub returns-clause-rows : goal.returns-clause-rows
returns-clause-rows c =
    let b = c.args.self.now.limit.beyond_first in
    on_ok_weaker _
    (any_rows_joined b c.args.later.now.limit.beyond_first (kept_values c.args.self.now.values) (kept_values c.args.later.now.values) (kept_values c.extend.new.self) c.room-room.result
    (c.room-room.ensures.room ∙ ap₂ (room_for b) c.len.ensures c.len-2.ensures))
    c.extend.ensures.ok
