-- Answers of the goals that the search leaves open in running_states::key_places::place_of_text.
use Rattle.std.proofs.Common.{arith, ◌+◌, ◌-◌, ◌/◌}
use Rattle.agg_terms.specs.Values.{Bytes}
use Rattle.running_states.proofs.KeyOrder.{goes_down, goes_up, is_found}
use Rattle.running_states.proofs.key_places.place_of_text.Goals as goal

pub loop-low-preserved-in-Less : goal.loop-low-preserved-in-Less
loop-low-preserved-in-Less c = goes_down (Bytes c.args.text.now) c.args.entries.now c.loop-low.low c.loop-low.high (c.loop-low.low + (c.loop-low.high - c.loop-low.low) / 2) c.index-entries-middle.result c.compare_text.result c.requires c.loop-low.invariant
    (omega arith) (omega arith) c.index-entries-middle.is c.compare_text.ensures c.in-Less.is

pub returns-in-Equal : goal.returns-in-Equal
returns-in-Equal c = is_found (Bytes c.args.text.now) c.args.entries.now c.loop-low.low c.loop-low.high (c.loop-low.low + (c.loop-low.high - c.loop-low.low) / 2) c.index-entries-middle.result c.compare_text.result c.requires c.loop-low.invariant
    (omega arith) (omega arith) c.index-entries-middle.is c.compare_text.ensures c.in-Equal.is

pub loop-low-preserved : goal.loop-low-preserved
loop-low-preserved c = goes_up (Bytes c.args.text.now) c.args.entries.now c.loop-low.low c.loop-low.high (c.loop-low.low + (c.loop-low.high - c.loop-low.low) / 2) c.index-entries-middle.result c.compare_text.result c.requires c.loop-low.invariant
    (omega arith) (omega arith) c.index-entries-middle.is c.compare_text.ensures c.in-Greater.is
