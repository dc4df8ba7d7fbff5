use Rattle.std.proofs.Common.{subst}
use Rattle.agg_defs.specs.Parts.{Parts, IsStateType}
use Rattle.agg_defs.proofs.Back.{typed_state}
use Rattle.agg_defs.proofs.legal.Legal.state_type.Goals as goal

pub returns-clause-of_states : goal.returns-clause-of_states
returns-clause-of_states c = subst (λ (p : Parts). IsStateType p.state_type) c.self.view_is (typed_state _ c.self.invariant)
