-- Answers of the goals that the search leaves open in boxed_leaves::state::BoxedState::tree.
use Rattle.agg_terms.specs.Chains.{Ty}
use Rattle.list_leaves.specs.Arrays as array
use Rattle.boxed_leaves.specs.Boxed.{held}
use Rattle.boxed_leaves.proofs.Arms.{array_at, trees_at}
use Rattle.boxed_leaves.proofs.state.BoxedState.tree.Goals as goal

pub returns-in-Array : goal.returns-in-Array
returns-in-Array c =
    trees_at c.tree-in-Array.result (λ (t : Ty). held t c.args.self.now) (λ (t : Ty). array.held t c.deref-in-Array.result.now)
    (array_at c.args.self.now c.in-Array.of c.deref-in-Array.result.now c.in-Array.is c.deref-in-Array.ensures) c.tree-in-Array.ensures
