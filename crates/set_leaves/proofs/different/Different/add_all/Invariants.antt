use Rattle.std.proofs.Common.{◌≡◌, ◌++◌, length, map, take}
use Rattle.set_leaves.specs.Tuples.{SameSet}
use Rattle.set_leaves.proofs.different.Different.add_all.Given as goal

-- those so far were added, behind what was there
abbrev pub invariant-loop-key : goal.invariant-loop-key
invariant-loop-key g l =
    SameSet (map g.K.Key.tuple l.self) (map g.K.Key.tuple l.initial.self ++ map g.K.Key.tuple (take l.key-index l.keys))
    × (take (length l.initial.self) l.self ≡ l.initial.self)
