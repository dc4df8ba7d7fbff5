use Rattle.std.proofs.Common.{◌≡◌, map, take}
use Rattle.agg_meaning.specs.Functions.{number}
use Rattle.value_types.specs.Folds.{value_of}
use Rattle.list_leaves.proofs.number_values.numbers_in.Given as goal

-- the numbers that the values so far are
abbrev pub invariant-loop-value : goal.invariant-loop-value
invariant-loop-value l = l.numbers ≡ map number (map value_of (take l.value-index l.values))
