use Rattle.std.proofs.Common.{length}
use Rattle.plain_rows.proofs.numbers.+sum.Given as goal

abbrev pub decreases-sum : goal.decreases-sum
decreases-sum l = length l.rows.now
