use Rattle.group_keys.specs.proving.Placed.{AreNumbers}
use Rattle.group_keys.proofs.number_order.placed_numbers.Given as goal

abbrev pub invariant-loop-place : goal.invariant-loop-place
invariant-loop-place g l = AreNumbers l.numbers l.place l.placed.items
