use Rattle.std.proofs.Common.{ap, ◌∙◌}
use Rattle.value_types.specs.Folds.{tree_of}
use Rattle.int_leaves.specs.Words.{tree_word}
use Rattle.int_leaves.proofs.Serving.{served}
use Rattle.int_leaves.proofs.Stored.{stored}
use Rattle.int_leaves.proofs.state.IntState.from_tree.Goals as goal

pub returns-clause-tree : goal.returns-clause-tree
returns-clause-tree c =
    stored c.new-made.result _ _ _ _ (served _ _ c.requires) c.new-made.ensures.made
    (c.word_in.ensures.word ∙ ap (λ t. tree_word t (tree_of c.args.tree.now)) c.word_number-number.ensures)
