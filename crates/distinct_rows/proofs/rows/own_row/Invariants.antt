-- Measures and loop invariants of distinct_rows::rows::own_row.
use Rattle.std.proofs.Common.{◌≡◌, map, take}
use Rattle.typed_columns.specs.Items.{item_value}
use Rattle.distinct_rows.proofs.rows.own_row.Given as goal

abbrev pub invariant-loop-i : goal.invariant-loop-i
invariant-loop-i l = l.values ≡ map item_value (take l.i l.row)
