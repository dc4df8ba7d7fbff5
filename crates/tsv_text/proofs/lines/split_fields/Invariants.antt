use Rattle.std.proofs.Common.{ℕ, length}
use Rattle.tsv_text.proofs.Places.{IsCut, left_of}
use Rattle.tsv_text.proofs.lines.split_fields.Given as goal

abbrev pub invariant-loop-rest : goal.invariant-loop-rest
invariant-loop-rest l = IsCut l.line l.places.items l.rest

abbrev pub decreases-loop-rest : goal.decreases-loop-rest
decreases-loop-rest l = left_of l.rest
