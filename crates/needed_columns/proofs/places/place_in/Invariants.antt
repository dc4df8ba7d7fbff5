use Rattle.std.proofs.Common.{◌≡◌}
use Rattle.needed_columns.specs.Columns.{place_in}
use Rattle.needed_columns.proofs.places.place_in.Given as goal

-- how many of the marks so far are set
abbrev pub invariant-loop-marked : goal.invariant-loop-marked
invariant-loop-marked l = l.place ≡ place_in l.fn.marks l.marked-index
