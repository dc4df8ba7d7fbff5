use Rattle.std.proofs.Common.{length}
use Rattle.plain_functions.proofs.meanings.+is_fed.Given as goal

abbrev pub decreases-is_fed : goal.decreases-is_fed
decreases-is_fed l = length l.rows.now
