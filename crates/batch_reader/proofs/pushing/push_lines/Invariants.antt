use Rattle.std.proofs.Common.{length}
use Rattle.batch_reader.proofs.Pushed.{IsPushed}
use Rattle.batch_reader.proofs.pushing.push_lines.Given as goal

abbrev pub invariant-loop-left : goal.invariant-loop-left
invariant-loop-left g l = IsPushed (g.R.StateReader.reads l.reader) l.initial.batch l.batch l.text l.left

abbrev pub decreases-loop-left : goal.decreases-loop-left
decreases-loop-left g l = length l.left
