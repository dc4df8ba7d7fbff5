-- Measures and loop invariants of row_parts::row::count_tuples.
use Rattle.std.proofs.Common.{length}
use Rattle.row_parts.proofs.row.+count_tuples.Given as goal

abbrev pub decreases-count_tuples : goal.decreases-count_tuples
decreases-count_tuples l = length l.row.now
