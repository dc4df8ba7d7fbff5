-- Answers of the goals that the search leaves open in running_states::function::copy_leaf.
use Rattle.std.proofs.Common.{map, refl, ap}
use Rattle.int_leaves.specs.Parts as int
use Rattle.value_types.specs.Folds.{leaf_of, ty_of}
use Rattle.running_states.proofs.Functions.{boxed_copied, boxed_same_tree, int_kept, int_same_tree}
use Rattle.running_states.proofs.function.copy_leaf.Goals as goal

pub returns-in_ok-copy-in-Int-clause-shape : goal.returns-in_ok-copy-in-Int-clause-shape
returns-in_ok-copy-in-Int-clause-shape c =
    int_kept (leaf_of c.args.leaf.now) (map ty_of c.args.types.now) c.args.state.now _ c.in-Int.of c.in_ok-copy-in-Int.field-0 c.in-Int.is refl c.requires (ap (λ (z : int.Parts). (int.held z).made) c.in_ok-copy-in-Int.ensures.copy)

pub returns-in_ok-copy-in-Int-clause-tree : goal.returns-in_ok-copy-in-Int-clause-tree
returns-in_ok-copy-in-Int-clause-tree c = int_same_tree c.args.state.now c.in-Int.of c.in_ok-copy-in-Int.field-0 c.in-Int.is c.in_ok-copy-in-Int.ensures.copy

pub returns-in_ok-copy-in-Boxed-clause-shape : goal.returns-in_ok-copy-in-Boxed-clause-shape
returns-in_ok-copy-in-Boxed-clause-shape c = boxed_copied (leaf_of c.args.leaf.now) (map ty_of c.args.types.now) c.args.state.now c.in-Boxed.of c.in_ok-copy-in-Boxed.field-0 c.in-Boxed.is c.requires c.in_ok-copy-in-Boxed.ensures

pub returns-in_ok-copy-in-Boxed-clause-tree : goal.returns-in_ok-copy-in-Boxed-clause-tree
returns-in_ok-copy-in-Boxed-clause-tree c = boxed_same_tree c.args.state.now c.in-Boxed.of c.in_ok-copy-in-Boxed.field-0 c.in-Boxed.is c.in_ok-copy-in-Boxed.ensures
