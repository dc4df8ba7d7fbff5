use Rattle.std.proofs.Common.{arith}
use Rattle.agg_values.proofs.Bits.{power_fits}
use Rattle.agg_values.proofs.leaf_trees.power_of_two.Goals as goal

pub pow-requires : goal.pow-requires
pow-requires c = power_fits c.min.result (omega (arith, c.min.ensures))
