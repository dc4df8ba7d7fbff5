use Rattle.std.proofs.Common.{map, take}
use Rattle.set_leaves.specs.Tuples.{SameSet, values_tuple}
use Rattle.set_leaves.proofs.rows.as_tuples.Given as goal

-- the tuples of the keys so far
abbrev pub invariant-loop-key : goal.invariant-loop-key
invariant-loop-key g l = SameSet (map (λ tuple. values_tuple tuple.values) l.tuples) (map g.K.Key.tuple (take l.key-index l.key-items))
