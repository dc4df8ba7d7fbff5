use Rattle.std.proofs.Common.{◌≡◌, ◌++◌, map, take}
use Rattle.value_types.specs.declared.value.Value.TheVariants.{Num}
use Rattle.list_leaves.proofs.kept.push_numbers.Given as goal

-- the values as they were, and those of the numbers so far
abbrev pub invariant-loop-i : goal.invariant-loop-i
invariant-loop-i l = l.values ≡ l.initial.values ++ map Num (take l.i l.more)
