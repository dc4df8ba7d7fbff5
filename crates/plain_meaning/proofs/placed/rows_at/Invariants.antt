use Rattle.std.proofs.Common.{◌≡◌, take}
use Rattle.plain_rows.specs.Rows.{rows_of}
use Rattle.plain_meaning.specs.Inward.{rows_at}
use Rattle.plain_meaning.proofs.placed.rows_at.Given as goal

abbrev pub invariant-loop-row : goal.invariant-loop-row
invariant-loop-row l = rows_of l.found ≡ rows_at l.place (rows_of (take l.row-index l.rows))
