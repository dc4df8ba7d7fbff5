use Rattle.table_words.proofs.Fed.{rows_are_fed}
use Rattle.table_words.proofs.Merged.{tables_are_merged}
use Rattle.table_words.proofs.laws.law_tables.Goals as goal

pub returns-clause-rows : goal.returns-clause-rows
returns-clause-rows c = rows_are_fed

pub returns-clause-tables : goal.returns-clause-tables
returns-clause-tables c = tables_are_merged
