-- Answers of the goals that the search leaves open in running_states::key_places::place_of_value.
use Rattle.std.proofs.Common.{arith, ◌+◌, ◌-◌, ◌/◌}
use Rattle.value_types.specs.Folds.{value_of}
use Rattle.running_states.proofs.KeyOrder.{goes_down, goes_up, is_found}
use Rattle.running_states.proofs.key_places.place_of_value.Goals as goal

pub loop-low-preserved-in-Less : goal.loop-low-preserved-in-Less
loop-low-preserved-in-Less c = goes_down (value_of c.args.key.now) c.args.entries.now c.loop-low.low c.loop-low.high (c.loop-low.low + (c.loop-low.high - c.loop-low.low) / 2) c.index-entries-middle.result c.compare.result c.requires c.loop-low.invariant
    (omega arith) (omega arith) c.index-entries-middle.is c.compare.ensures c.in-Less.is

pub returns-in-Equal : goal.returns-in-Equal
returns-in-Equal c = is_found (value_of c.args.key.now) c.args.entries.now c.loop-low.low c.loop-low.high (c.loop-low.low + (c.loop-low.high - c.loop-low.low) / 2) c.index-entries-middle.result c.compare.result c.requires c.loop-low.invariant
    (omega arith) (omega arith) c.index-entries-middle.is c.compare.ensures c.in-Equal.is

pub loop-low-preserved : goal.loop-low-preserved
loop-low-preserved c = goes_up (value_of c.args.key.now) c.args.entries.now c.loop-low.low c.loop-low.high (c.loop-low.low + (c.loop-low.high - c.loop-low.low) / 2) c.index-entries-middle.result c.compare.result c.requires c.loop-low.invariant
    (omega arith) (omega arith) c.index-entries-middle.is c.compare.ensures c.in-Greater.is
