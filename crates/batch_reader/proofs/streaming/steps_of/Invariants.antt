use Rattle.std.proofs.Common.{take}
use Rattle.quick_rows.specs.Keeping.{AreSteps}
use Rattle.batch_reader.proofs.streaming.steps_of.Given as goal

abbrev pub invariant-loop-i : goal.invariant-loop-i
invariant-loop-i l = AreSteps (take l.i l.types) (take l.i l.keep) l.steps.items
