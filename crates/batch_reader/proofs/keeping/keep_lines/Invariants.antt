use Rattle.std.proofs.Common.{length}
use Rattle.batch_reader.proofs.Kept.{IsKept}
use Rattle.batch_reader.proofs.keeping.keep_lines.Given as goal

abbrev pub invariant-loop-left : goal.invariant-loop-left
invariant-loop-left g l = IsKept (g.R.StateReader.reads l.reader) l.types l.keep l.batch l.text l.left

abbrev pub decreases-loop-left : goal.decreases-loop-left
decreases-loop-left g l = length l.left
