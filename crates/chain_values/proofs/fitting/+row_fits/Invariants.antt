-- The measure of chain_values::fitting::row_fits.
use Rattle.std.proofs.Common.{length}
use Rattle.chain_values.proofs.fitting.+row_fits.Given as goal

abbrev pub decreases-row_fits : goal.decreases-row_fits
decreases-row_fits l = length l.types.now
