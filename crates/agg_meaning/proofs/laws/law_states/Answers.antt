use Rattle.agg_meaning.proofs.Formed.{law_meaning, law_fed, law_joined, formed, unfolds}
use Rattle.agg_meaning.proofs.Blank.{normal_live, fed_live, meaning_live, of_none}
use Rattle.agg_meaning.proofs.ChainLaws.{joins, fed_same, means_same}
use Rattle.agg_meaning.proofs.TreeLaws.{back}
use Rattle.agg_meaning.proofs.laws.law_states.Goals as goal

pub returns-clause-meaning_is_kept : goal.returns-clause-meaning_is_kept
returns-clause-meaning_is_kept c = λ d ts L l k. law_meaning d ts l.0 l.1 L k

pub returns-clause-fed_is_kept : goal.returns-clause-fed_is_kept
returns-clause-fed_is_kept c = λ d ts L l k. law_fed d ts l.0 l.1 L k

pub returns-clause-merges_are : goal.returns-clause-merges_are
returns-clause-merges_are c = λ d ts A B l h k. law_joined d ts l.0 l.1 A B h k

pub returns-clause-trees_are_normal : goal.returns-clause-trees_are_normal
returns-clause-trees_are_normal c = λ d ts t l k. back d ts l.0 t k

pub returns-clause-normals_are_trees : goal.returns-clause-normals_are_trees
returns-clause-normals_are_trees c = λ d ts L l k. formed d ts l.0 l.1 L k

pub returns-clause-trees_unfold : goal.returns-clause-trees_unfold
returns-clause-trees_unfold c = λ d ts t l k. unfolds d ts l.0 l.1 t k

pub returns-clause-states_join : goal.returns-clause-states_join
returns-clause-states_join c = joins

pub returns-clause-same_states_mean : goal.returns-clause-same_states_mean
returns-clause-same_states_mean c = λ d ts A B l e. means_same d ts l.0 A B e

pub returns-clause-same_states_are_fed : goal.returns-clause-same_states_are_fed
returns-clause-same_states_are_fed c = λ d ts A B l e. fed_same d ts l.0 A B e

pub returns-clause-only_live_mean : goal.returns-clause-only_live_mean
returns-clause-only_live_mean c = meaning_live

pub returns-clause-only_live_feed : goal.returns-clause-only_live_feed
returns-clause-only_live_feed c = fed_live

pub returns-clause-only_live_stay : goal.returns-clause-only_live_stay
returns-clause-only_live_stay c = normal_live

pub returns-clause-none_is_blank : goal.returns-clause-none_is_blank
returns-clause-none_is_blank c = of_none
