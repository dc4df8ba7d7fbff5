use Rattle.std.proofs.Common.{◌≡◌, take}
use Rattle.value_types.specs.Folds.{value_of}
use Rattle.plain_rows.specs.Rows.{rows_of}
use Rattle.plain_meaning.specs.Inward.{rows_at_key}
use Rattle.plain_meaning.proofs.keyed.rows_at_key.Given as goal

abbrev pub invariant-loop-row : goal.invariant-loop-row
invariant-loop-row l = rows_of l.found ≡ rows_at_key (value_of l.key) (rows_of (take l.row-index l.rows))
