use Rattle.std.proofs.Common.{◌≡◌, map, take}
use Rattle.value_types.specs.Folds.{value_of}
use Rattle.set_leaves.proofs.rows.tuple_of.Given as goal

-- the values of the parts so far
abbrev pub invariant-loop-part : goal.invariant-loop-part
invariant-loop-part g l = map value_of l.values ≡ map g.P.Part.part (take l.part-index l.row)
