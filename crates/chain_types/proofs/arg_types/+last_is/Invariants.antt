use Rattle.std.proofs.Common.{length}
use Rattle.chain_types.proofs.arg_types.+last_is.Given as goal

abbrev pub decreases-last_is : goal.decreases-last_is
decreases-last_is l = length l.args.now
