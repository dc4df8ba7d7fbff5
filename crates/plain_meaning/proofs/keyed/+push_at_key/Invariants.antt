use Rattle.std.proofs.Common.{length}
use Rattle.plain_meaning.proofs.keyed.+push_at_key.Given as goal

abbrev pub decreases-push_at_key : goal.decreases-push_at_key
decreases-push_at_key l = length l.entries.now
