use Rattle.std.proofs.Common.{◌≡◌, take}
use Rattle.columns.specs.Rows.{joined}
use Rattle.columns.proofs.each.append_each.Given as goal

abbrev pub invariant-loop-i : goal.invariant-loop-i
invariant-loop-i l = l.columns.items ≡ joined l.initial.columns.items (take l.i l.more)
