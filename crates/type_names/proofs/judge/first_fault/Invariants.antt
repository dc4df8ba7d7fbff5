use Rattle.std.proofs.Common.{length}
use Rattle.type_names.proofs.Judged.{IsJudging}
use Rattle.type_names.proofs.judge.first_fault.Given as goal

abbrev pub invariant-loop-placed : goal.invariant-loop-placed
invariant-loop-placed l = IsJudging l.text l.rest l.goals.items

abbrev pub decreases-loop-placed : goal.decreases-loop-placed
decreases-loop-placed l = length l.rest
