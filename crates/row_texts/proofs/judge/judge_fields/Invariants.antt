use Rattle.row_texts.proofs.Reading.{IsReadSoFar, bytes_left}
use Rattle.row_texts.proofs.judge.judge_fields.Given as goal

abbrev pub invariant-loop-left : goal.invariant-loop-left
invariant-loop-left g l = IsReadSoFar (g.R.StateReader.reads l.reader) l.types l.line l.row l.left

abbrev pub decreases-loop-left : goal.decreases-loop-left
decreases-loop-left g l = bytes_left l.left
