use Rattle.std.proofs.Common.{◌+◌, ◌*◌, max}
use Rattle.typed_columns.specs.Height.{height}
use Rattle.typed_columns.proofs.+append.Given as goal

abbrev pub decreases-column::Column::append : goal.decreases-column::Column::append
decreases-column::Column::append l = 3 * height l.self.now.ty

abbrev pub decreases-growth_append::append_nullable : goal.decreases-growth_append::append_nullable
decreases-growth_append::append_nullable l = 3 * height l.values.now.ty + 1

abbrev pub decreases-growth_append::append_lists : goal.decreases-growth_append::append_lists
decreases-growth_append::append_lists l = 3 * height l.elements.now.ty + 1

abbrev pub decreases-growth_append::append_maps : goal.decreases-growth_append::append_maps
decreases-growth_append::append_maps l = 3 * max (height l.keys.now.ty) (height l.values.now.ty) + 2

abbrev pub decreases-growth_append::append_entries : goal.decreases-growth_append::append_entries
decreases-growth_append::append_entries l = 3 * max (height l.keys.now.ty) (height l.values.now.ty) + 1
