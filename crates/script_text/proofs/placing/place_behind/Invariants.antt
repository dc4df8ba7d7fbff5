use Rattle.script_text.proofs.Placed.{IsPassed}
use Rattle.script_text.proofs.placing.place_behind.Given as goal

abbrev pub invariant-loop-left : goal.invariant-loop-left
invariant-loop-left l = IsPassed l.text l.at l.count l.left l.to

abbrev pub decreases-loop-left : goal.decreases-loop-left
decreases-loop-left l = l.left
