use Rattle.std.proofs.Common.{length}
use Rattle.plain_rows.proofs.bits.+folded.Given as goal

abbrev pub decreases-folded : goal.decreases-folded
decreases-folded l = length l.rows.now
