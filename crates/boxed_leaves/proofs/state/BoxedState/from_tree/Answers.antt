-- Answers of the goals that the search leaves open in boxed_leaves::state::BoxedState::from_tree.
use Rattle.std.proofs.Common.{ap, ◌∙◌}
use Rattle.list_leaves.specs.Arrays as array
use Rattle.list_leaves.specs.declared.array.ArrayState.{ArrayState}
use Rattle.boxed_leaves.proofs.state.BoxedState.from_tree.Goals as goal

pub returns-in_ok-new-2-clause-tree : goal.returns-in_ok-new-2-clause-tree
returns-in_ok-new-2-clause-tree c = λ t k. ap (λ (z : ArrayState). (array.held t z).tree) c.in_ok-new-2.ensures.ok ∙ c.in_ok-state-2.ensures.tree t k
