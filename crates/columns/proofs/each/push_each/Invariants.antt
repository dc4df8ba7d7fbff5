use Rattle.std.proofs.Common.{◌≡◌, take}
use Rattle.columns.specs.Rows.{pushed}
use Rattle.columns.proofs.each.push_each.Given as goal

abbrev pub invariant-loop-i : goal.invariant-loop-i
invariant-loop-i l = l.columns.items ≡ pushed l.initial.columns.items (take l.i l.row)
