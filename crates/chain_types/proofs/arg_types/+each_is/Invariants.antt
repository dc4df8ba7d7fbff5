use Rattle.std.proofs.Common.{length}
use Rattle.chain_types.proofs.arg_types.+each_is.Given as goal

abbrev pub decreases-each_is : goal.decreases-each_is
decreases-each_is l = length l.args.now
