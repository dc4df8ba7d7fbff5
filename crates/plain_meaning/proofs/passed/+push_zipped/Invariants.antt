use Rattle.std.proofs.Common.{length}
use Rattle.plain_meaning.proofs.passed.+push_zipped.Given as goal

abbrev pub decreases-push_zipped : goal.decreases-push_zipped
decreases-push_zipped l = length l.items.now
