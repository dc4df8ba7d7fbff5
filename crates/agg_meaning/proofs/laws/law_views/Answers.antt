use Rattle.agg_meaning.proofs.Groups.{groups_ascend, groups_joined}
use Rattle.agg_meaning.proofs.Views.{absent_blank, same_answer, tables_join, tables_merged, tables_reload}
use Rattle.agg_meaning.proofs.laws.law_views.Goals as goal

pub returns-clause-groups_ascend : goal.returns-clause-groups_ascend
returns-clause-groups_ascend c = groups_ascend

pub returns-clause-groups_are_joined : goal.returns-clause-groups_are_joined
returns-clause-groups_are_joined c = groups_joined

pub returns-clause-tables_are_merged : goal.returns-clause-tables_are_merged
returns-clause-tables_are_merged c = tables_merged

pub returns-clause-absent_is_blank : goal.returns-clause-absent_is_blank
returns-clause-absent_is_blank c = absent_blank

pub returns-clause-tables_join : goal.returns-clause-tables_join
returns-clause-tables_join c = tables_join

pub returns-clause-same_tables_answer : goal.returns-clause-same_tables_answer
returns-clause-same_tables_answer c = λ v A B l. same_answer v l A B

pub returns-clause-tables_reload : goal.returns-clause-tables_reload
returns-clause-tables_reload c = λ v C l. tables_reload v l C
