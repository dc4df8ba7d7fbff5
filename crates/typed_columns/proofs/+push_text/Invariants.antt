use Rattle.std.proofs.Common.{◌+◌, ◌*◌}
use Rattle.typed_columns.specs.Height.{height}
use Rattle.typed_columns.proofs.+push_text.Given as goal

abbrev pub decreases-column::Column::push_text : goal.decreases-column::Column::push_text
decreases-column::Column::push_text l = 2 * height l.self.now.ty

abbrev pub decreases-growth_direct::push_text_to : goal.decreases-growth_direct::push_text_to
decreases-growth_direct::push_text_to l = 2 * height l.values.now.ty + 1
