use Rattle.std.proofs.Common.{map, take}
use Rattle.value_types.specs.Folds.{value_of}
use Rattle.set_leaves.specs.Rows.{rows_in}
use Rattle.set_leaves.specs.Tuples.{SameSet}
use Rattle.set_leaves.proofs.state.rows_from.Given as goal

-- the different ones of the rows so far
abbrev pub invariant-loop-row : goal.invariant-loop-row
invariant-loop-row l = SameSet (rows_in l.rows) (map (map value_of) (take l.row-index l.stored))
