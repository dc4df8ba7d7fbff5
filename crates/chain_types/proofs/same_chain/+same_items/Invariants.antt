use Rattle.std.proofs.Common.{length}
use Rattle.chain_types.proofs.same_chain.+same_items.Given as goal

abbrev pub decreases-same_items : goal.decreases-same_items
decreases-same_items l = length l.a.now
