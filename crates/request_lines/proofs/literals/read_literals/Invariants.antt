use Rattle.std.proofs.Common.{[], ◌∷◌, length}
use Rattle.line_forms.specs.Selects.{literal_part}
use Rattle.request_lines.specs.proving.Judging.{a_literal, literals}
use Rattle.request_lines.specs.proving.Reads.{LiteralFits, IsLiteralOf}
use Rattle.request_lines.proofs.ListsRead.{SoFar}
use Rattle.request_lines.proofs.literals.read_literals.Given as goal

abbrev pub invariant-loop-behind : goal.invariant-loop-behind
invariant-loop-behind l = SoFar LiteralFits IsLiteralOf literal_part (a_literal ∷ []) literals l.rest l.left l.literals

abbrev pub decreases-loop-behind : goal.decreases-loop-behind
decreases-loop-behind l = length l.left.text.now
