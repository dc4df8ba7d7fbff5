use Rattle.std.proofs.Common.{length}
use Rattle.chain_params.proofs.chains.+read_links.Given as goal

abbrev pub decreases-read_links : goal.decreases-read_links
decreases-read_links l = length l.suffixes.now
