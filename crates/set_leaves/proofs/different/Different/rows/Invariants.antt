use Rattle.std.proofs.Common.{◌≡◌, map, take}
use Rattle.value_types.specs.Folds.{value_of}
use Rattle.set_leaves.proofs.different.Different.rows.Given as goal

-- the rows of the keys so far
abbrev pub invariant-loop-key : goal.invariant-loop-key
invariant-loop-key g l = map (map value_of) l.rows ≡ map g.K.Key.tuple (take l.key-index l.key-items)
