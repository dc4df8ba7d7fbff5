use Rattle.std.proofs.Common.{length}
use Rattle.chain_state_cases.proofs.trial.Trial.+merge_all.Given as goal

abbrev pub decreases-merge_all : goal.decreases-merge_all
decreases-merge_all l = length l.later.now
