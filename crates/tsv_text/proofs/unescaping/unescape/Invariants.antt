use Rattle.std.proofs.Common.{length}
use Rattle.tsv_text.proofs.Pieces.{IsSoFar}
use Rattle.tsv_text.proofs.unescaping.unescape.Given as goal

abbrev pub invariant-loop-plain : goal.invariant-loop-plain
invariant-loop-plain l = IsSoFar l.field l.rest l.bytes.items

abbrev pub decreases-loop-plain : goal.decreases-loop-plain
decreases-loop-plain l = length l.rest
