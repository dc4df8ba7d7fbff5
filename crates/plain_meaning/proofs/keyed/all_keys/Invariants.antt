use Rattle.std.proofs.Common.{◌≡◌, map, take}
use Rattle.value_types.specs.Folds.{value_of}
use Rattle.plain_rows.specs.Rows.{rows_of}
use Rattle.plain_meaning.specs.Inward.{all_row_keys}
use Rattle.plain_meaning.proofs.keyed.all_keys.Given as goal

abbrev pub invariant-loop-row : goal.invariant-loop-row
invariant-loop-row l = map value_of l.keys ≡ all_row_keys (rows_of (take l.row-index l.rows))
