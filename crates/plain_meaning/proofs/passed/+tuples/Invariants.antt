use Rattle.std.proofs.Common.{length}
use Rattle.plain_meaning.proofs.passed.+tuples.Given as goal

abbrev pub decreases-tuples : goal.decreases-tuples
decreases-tuples l = length l.row.now
