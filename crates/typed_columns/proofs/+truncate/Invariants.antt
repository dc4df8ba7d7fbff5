use Rattle.std.proofs.Common.{◌+◌, ◌*◌, max}
use Rattle.typed_columns.specs.Height.{height}
use Rattle.typed_columns.proofs.+truncate.Given as goal

abbrev pub decreases-column::Column::truncate : goal.decreases-column::Column::truncate
decreases-column::Column::truncate l = 2 * height l.self.now.ty

abbrev pub decreases-growth_truncate::truncate_nullable : goal.decreases-growth_truncate::truncate_nullable
decreases-growth_truncate::truncate_nullable l = 2 * height l.values.now.ty + 1

abbrev pub decreases-growth_truncate::truncate_lists : goal.decreases-growth_truncate::truncate_lists
decreases-growth_truncate::truncate_lists l = 2 * height l.elements.now.ty + 1

abbrev pub decreases-growth_truncate::truncate_maps : goal.decreases-growth_truncate::truncate_maps
decreases-growth_truncate::truncate_maps l = 2 * max (height l.keys.now.ty) (height l.values.now.ty) + 1
