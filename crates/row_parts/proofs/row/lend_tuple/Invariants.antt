-- Measures and loop invariants of row_parts::row::lend_tuple.
use Rattle.std.proofs.Common.{◌≡◌, map, take}
use Rattle.value_types.specs.Folds.{value_of}
use Rattle.row_parts.specs.Rows.{arguments}
use Rattle.row_parts.proofs.Tuples.{at_place}
use Rattle.row_parts.proofs.row.lend_tuple.Given as goal

abbrev pub invariant-loop-i : goal.invariant-loop-i
invariant-loop-i l = map value_of l.tuple ≡ map (at_place l.place) (arguments (take l.i l.row))
