use Rattle.std.proofs.Common.{take}
use Rattle.group_keys.proofs.KeyLists.{Placed}
use Rattle.group_keys.proofs.places.place_numbers.Given as goal

abbrev pub invariant-loop-number : goal.invariant-loop-number
invariant-loop-number g l = Placed g.N.PartialEq.eq l.initial.set.keys (take l.number-index l.numbers) l.set.keys l.places.items
