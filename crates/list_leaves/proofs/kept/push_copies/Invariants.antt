use Rattle.std.proofs.Common.{◌≡◌, ◌++◌, take}
use Rattle.list_leaves.proofs.kept.push_copies.Given as goal

-- the values as they were, and those so far
abbrev pub invariant-loop-i : goal.invariant-loop-i
invariant-loop-i l = l.values ≡ l.initial.values ++ take l.i l.more
