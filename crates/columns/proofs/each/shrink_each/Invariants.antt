use Rattle.std.proofs.Common.{◌≡◌}
use Rattle.columns.proofs.each.shrink_each.Given as goal

abbrev pub invariant-loop-i : goal.invariant-loop-i
invariant-loop-i l = l.columns.items ≡ l.initial.columns.items
