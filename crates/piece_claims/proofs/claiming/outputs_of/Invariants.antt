use Rattle.std.proofs.Common.{◌≡◌, ◌++◌, map, length}
use Rattle.std.specs.declared.result.Result.TheVariants.{Ok}
use Rattle.piece_claims.proofs.claiming.outputs_of.Given as goal

abbrev pub invariant-loop-outcome : goal.invariant-loop-outcome
invariant-loop-outcome g l = (l.number ≡ length l.yielded) × (l.yielded ≡ map Ok l.outputs.items) × (l.yielded ++ l.outcome-iterator.rest.items ≡ l.fn.outcomes.items)
