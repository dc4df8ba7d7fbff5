-- Answers of the goals that the search leaves open in boxed_leaves::state::BoxedState::is_fed.
use Rattle.std.proofs.Common.{subst}
use Rattle.agg_meaning.specs.States.{Stands}
use Rattle.boxed_leaves.proofs.Arms.{array_at}
use Rattle.boxed_leaves.proofs.state.BoxedState.is_fed.Goals as goal

pub returns-in-Array : goal.returns-in-Array
returns-in-Array c = λ t f ts L h.
    c.is_fed-in-Array.ensures t f ts L (subst (Stands f ts L) (array_at c.args.self.now c.in-Array.of c.deref-in-Array.result.now c.in-Array.is c.deref-in-Array.ensures t) h)
