use Rattle.std.proofs.Common.{length}
use Rattle.chain_params.proofs.suffixes.+arguments_reaching.Given as goal

abbrev pub decreases-arguments_reaching : goal.decreases-arguments_reaching
decreases-arguments_reaching l = length l.suffixes.now
