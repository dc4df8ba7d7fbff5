use Rattle.agg_terms.proofs.Fitting.{plain, tree, value}
use Rattle.agg_terms.proofs.laws.law_trees.Goals as goal

pub returns-clause-plain : goal.returns-clause-plain
returns-clause-plain c = plain

pub returns-clause-trees : goal.returns-clause-trees
returns-clause-trees c = tree

pub returns-clause-values : goal.returns-clause-values
returns-clause-values c = value
