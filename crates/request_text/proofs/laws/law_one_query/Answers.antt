use Rattle.request_text.proofs.OneAnswer.{one_answer, one_select, one_table}
use Rattle.request_text.proofs.laws.law_one_query.Goals as goal

pub returns-clause-tables : goal.returns-clause-tables
returns-clause-tables c = one_table c.law_one_form.ensures.tables

pub returns-clause-requests : goal.returns-clause-requests
returns-clause-requests c = one_select c.law_one_form.ensures.requests

pub returns-clause-queries : goal.returns-clause-queries
returns-clause-queries c = one_answer (one_table c.law_one_form.ensures.tables) (one_select c.law_one_form.ensures.requests)
