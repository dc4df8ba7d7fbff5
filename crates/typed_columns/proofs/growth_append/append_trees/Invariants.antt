use Rattle.std.proofs.Common.{◌≡◌, ◌++◌, take}
use Rattle.typed_columns.proofs.growth_append.append_trees.Given as goal

abbrev pub invariant-loop-i : goal.invariant-loop-i
invariant-loop-i l = l.trees.items ≡ l.initial.trees.items ++ take l.i l.more
