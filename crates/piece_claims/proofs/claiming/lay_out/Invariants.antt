use Rattle.std.proofs.Common.{◌≡◌, ◌++◌, map}
use Rattle.piece_claims.specs.declared.board.Slot.TheVariants.{Ready}
use Rattle.piece_claims.proofs.claiming.lay_out.Given as goal

abbrev pub invariant-loop-job : goal.invariant-loop-job
invariant-loop-job g l = (l.slots.items ≡ map Ready l.yielded) × (l.yielded ++ l.job-iterator.rest.items ≡ l.fn.jobs.items)
