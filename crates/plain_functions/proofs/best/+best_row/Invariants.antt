use Rattle.std.proofs.Common.{length}
use Rattle.plain_functions.proofs.best.+best_row.Given as goal

abbrev pub decreases-best_row : goal.decreases-best_row
decreases-best_row l = length l.rows.now
