use Rattle.std.proofs.Common.{◌∙◌, ap, map, sym}
use Rattle.std.proofs.lemmas.Result.{on_ok_weaker}
use Rattle.typed_columns.specs.Items.{item_value}
use Rattle.list_leaves.specs.Kept.{kept_values}
use Rattle.list_leaves.specs.Limits.{is_full}
use Rattle.list_leaves.specs.Rows.{argument}
use Rattle.list_leaves.proofs.Arrays.{any_row_added, row_left}
use Rattle.list_leaves.proofs.array.ArrayState.feed_items.Goals as goal

pub returns-then-is_full-clause-row : goal.returns-then-is_full-clause-row
returns-then-is_full-clause-row c t =
    let b = c.args.self.now.limit.beyond_first in
    row_left t b (kept_values c.args.self.now.values) (map argument c.args.row.now) (ap (is_full b) (sym c.len.ensures) ∙ sym c.is_full.ensures ∙ c.if-is_full.true)

pub returns-clause-row : goal.returns-clause-row
returns-clause-row c =
    let b = c.args.self.now.limit.beyond_first in
    on_ok_weaker _
    (any_row_added b (kept_values c.args.self.now.values) (kept_values c.push.new.self) (map argument c.args.row.now) (item_value c.first_item.result)
    (ap (is_full b) (sym c.len.ensures) ∙ sym c.is_full.ensures ∙ c.if-is_full.false) c.first_item.ensures)
    c.push.ensures.ok
