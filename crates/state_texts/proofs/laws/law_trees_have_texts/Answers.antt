use Rattle.std.proofs.Common.{arith}
use Rattle.state_texts.proofs.Trees.{of_tree}
use Rattle.state_texts.proofs.Short.{tree_short}
use Rattle.state_texts.proofs.laws.law_trees_have_texts.Goals as goal

pub returns-clause-trees : goal.returns-clause-trees
returns-clause-trees c = λ v d ts t k. of_tree v d ts t k

pub returns-clause-texts : goal.returns-clause-texts
returns-clause-texts c = λ v d ts t s k l. tree_short v d ts t s k (omega (arith, l))
