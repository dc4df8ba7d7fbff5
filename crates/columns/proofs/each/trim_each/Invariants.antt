use Rattle.std.proofs.Common.{◌≡◌, ◌++◌, map, take, drop}
use Rattle.typed_columns.specs.Growth.{trim}
use Rattle.columns.proofs.each.trim_each.Given as goal

abbrev pub invariant-loop-i : goal.invariant-loop-i
invariant-loop-i l = l.columns.items ≡ map (trim l.count) (take l.i l.initial.columns.items) ++ drop l.i l.initial.columns.items
