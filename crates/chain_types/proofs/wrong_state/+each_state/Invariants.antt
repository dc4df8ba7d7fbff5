use Rattle.std.proofs.Common.{length}
use Rattle.chain_types.proofs.wrong_state.+each_state.Given as goal

abbrev pub decreases-each_state : goal.decreases-each_state
decreases-each_state l = length l.args.now
