use Rattle.std.proofs.Common.{◌≡◌, map, take}
use Rattle.value_types.specs.declared.value.Value.TheVariants.{Num}
use Rattle.list_leaves.proofs.number_values.values_of.Given as goal

-- the values of the numbers so far
abbrev pub invariant-loop-number : goal.invariant-loop-number
invariant-loop-number l = l.values ≡ map Num (take l.number-index l.numbers)
