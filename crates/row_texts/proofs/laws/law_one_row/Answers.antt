use Rattle.row_texts.proofs.OneRow.{one_first_refused, one_list_of_rows, one_row_answer, rows_or_refused}
use Rattle.row_texts.proofs.laws.law_one_row.Goals as goal

pub returns-clause-line : goal.returns-clause-line
returns-clause-line c = one_row_answer c.law_one_field_answer.ensures

pub returns-clause-rows : goal.returns-clause-rows
returns-clause-rows c = one_list_of_rows c.law_one_field_answer.ensures

pub returns-clause-refused : goal.returns-clause-refused
returns-clause-refused c = one_first_refused (one_row_answer c.law_one_field_answer.ensures)

pub returns-clause-either : goal.returns-clause-either
returns-clause-either c = rows_or_refused (one_row_answer c.law_one_field_answer.ensures)
