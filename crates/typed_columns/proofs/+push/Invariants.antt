use Rattle.std.proofs.Common.{◌≡◌, ◌+◌, ◌*◌, max, map, take}
use Rattle.typed_columns.specs.Growth.{with_values}
use Rattle.typed_columns.specs.Height.{height}
use Rattle.typed_columns.proofs.+push.Given as goal

abbrev pub invariant-column::Column::push_all-loop-i : goal.invariant-column::Column::push_all-loop-i
invariant-column::Column::push_all-loop-i l = l.self ≡ with_values l.initial.self (take l.i l.values)

abbrev pub invariant-growth::push_entries-loop-i : goal.invariant-growth::push_entries-loop-i
invariant-growth::push_entries-loop-i l = record {
  keys : l.keys ≡ with_values l.initial.keys (map (λ e. e.0) (take l.i l.more));
  values : l.values ≡ with_values l.initial.values (map (λ e. e.1) (take l.i l.more));
}

abbrev pub decreases-column::Column::push : goal.decreases-column::Column::push
decreases-column::Column::push l = 4 * height l.self.now.ty

abbrev pub decreases-column::Column::push_all : goal.decreases-column::Column::push_all
decreases-column::Column::push_all l = 4 * height l.self.now.ty + 1

abbrev pub decreases-growth::push_list : goal.decreases-growth::push_list
decreases-growth::push_list l = 4 * height l.elements.now.ty + 2

abbrev pub decreases-growth::push_nullable : goal.decreases-growth::push_nullable
decreases-growth::push_nullable l = 4 * height l.values.now.ty + 2

abbrev pub decreases-growth::push_entry : goal.decreases-growth::push_entry
decreases-growth::push_entry l = 4 * max (height l.keys.now.ty) (height l.values.now.ty) + 1

abbrev pub decreases-growth::push_entries : goal.decreases-growth::push_entries
decreases-growth::push_entries l = 4 * max (height l.keys.now.ty) (height l.values.now.ty) + 2

abbrev pub decreases-growth::push_map : goal.decreases-growth::push_map
decreases-growth::push_map l = 4 * max (height l.keys.now.ty) (height l.values.now.ty) + 3
