use Rattle.agg_meaning.proofs.States.{tree_of_fed, tree_of_joined, value_of_meant, fed_of_told, stands_more, leaf_tree_of_fed, leaf_tree_of_joined, leaf_value_of_meant, leaf_fed_of_told}
use Rattle.agg_meaning.proofs.laws.law_stands.Goals as goal

pub returns-clause-rows_are_added : goal.returns-clause-rows_are_added
returns-clause-rows_are_added c = tree_of_fed

pub returns-clause-unfoldings_are_joined : goal.returns-clause-unfoldings_are_joined
returns-clause-unfoldings_are_joined c = tree_of_joined

pub returns-clause-unfolding_is_meant : goal.returns-clause-unfolding_is_meant
returns-clause-unfolding_is_meant c = value_of_meant

pub returns-clause-unfolding_is_fed : goal.returns-clause-unfolding_is_fed
returns-clause-unfolding_is_fed c = fed_of_told

pub returns-clause-unfolding_takes_feeds : goal.returns-clause-unfolding_takes_feeds
returns-clause-unfolding_takes_feeds c = stands_more

pub returns-clause-leaf_rows_are_added : goal.returns-clause-leaf_rows_are_added
returns-clause-leaf_rows_are_added c = leaf_tree_of_fed

pub returns-clause-leaf_unfoldings_are_joined : goal.returns-clause-leaf_unfoldings_are_joined
returns-clause-leaf_unfoldings_are_joined c = leaf_tree_of_joined

pub returns-clause-leaf_unfolding_is_meant : goal.returns-clause-leaf_unfolding_is_meant
returns-clause-leaf_unfolding_is_meant c = leaf_value_of_meant

pub returns-clause-leaf_unfolding_is_fed : goal.returns-clause-leaf_unfolding_is_fed
returns-clause-leaf_unfolding_is_fed c = leaf_fed_of_told
