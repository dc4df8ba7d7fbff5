use Rattle.std.proofs.Common.{length}
use Rattle.state_codec.proofs.rows.+fill_row.Given as goal

abbrev pub decreases-fill_row : goal.decreases-fill_row
decreases-fill_row l = length l.types.now
