use Rattle.std.proofs.Common.{nat_lt, ap₂, ◌∙◌, arith}
use Rattle.value_types.specs.Folds.{event_of}
use Rattle.agg_values.proofs.Bits.{event_bits}
use Rattle.agg_values.proofs.leaf_trees.event_fits.Goals as goal

pub returns-then-event-gt0 : goal.returns-then-event-gt0
returns-then-event-gt0 c =
    ap₂ nat_lt c.from.ensures c.power_of_two.ensures
    ∙ event_bits (event_of c.args.event.now) c.args.conditions (omega arith) c.if-event-gt0.true (omega arith)
