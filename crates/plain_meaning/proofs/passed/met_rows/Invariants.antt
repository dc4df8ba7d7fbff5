use Rattle.std.proofs.Common.{◌≡◌, take}
use Rattle.plain_rows.specs.Rows.{rows_of}
use Rattle.plain_meaning.specs.Inward.{met_rows}
use Rattle.plain_meaning.proofs.passed.met_rows.Given as goal

abbrev pub invariant-loop-row : goal.invariant-loop-row
invariant-loop-row l = rows_of l.met ≡ met_rows (rows_of (take l.row-index l.rows))
