use Rattle.std.proofs.Common.{◌≡◌, ◌++◌, length}
use Rattle.tsv_text.specs.Lines.{lines_of}
use Rattle.batch_reader.specs.proving.Pieces.{lines_in}
use Rattle.batch_reader.proofs.pieces.cut.Given as goal

abbrev pub invariant-loop-left : goal.invariant-loop-left
invariant-loop-left l = lines_in l.pieces.items ++ lines_of l.left ≡ lines_of l.text

abbrev pub decreases-loop-left : goal.decreases-loop-left
decreases-loop-left l = length l.left
