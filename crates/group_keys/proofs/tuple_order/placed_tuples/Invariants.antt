use Rattle.group_keys.specs.proving.Placed.{ArePlacedTuples}
use Rattle.group_keys.proofs.tuple_order.placed_tuples.Given as goal

abbrev pub invariant-loop-place : goal.invariant-loop-place
invariant-loop-place l = ArePlacedTuples l.types l.keys l.place l.placed.items
