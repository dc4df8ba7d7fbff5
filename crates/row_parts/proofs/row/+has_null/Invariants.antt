-- Measures and loop invariants of row_parts::row::has_null.
use Rattle.std.proofs.Common.{length}
use Rattle.row_parts.proofs.row.+has_null.Given as goal

abbrev pub decreases-has_null : goal.decreases-has_null
decreases-has_null l = length l.row.now
