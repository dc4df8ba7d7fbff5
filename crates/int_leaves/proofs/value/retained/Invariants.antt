use Rattle.std.proofs.Common.{◌≡◌, map}
use Rattle.agg_meaning.specs.Events.{bools, retained}
use Rattle.value_types.specs.Folds.{value_of}
use Rattle.int_leaves.proofs.value.retained.Given as goal

-- the numbers so far are those of the first conditions
abbrev pub invariant-loop-place : goal.invariant-loop-place
invariant-loop-place l = map value_of l.numbers ≡ retained (bools l.place l.mask)
