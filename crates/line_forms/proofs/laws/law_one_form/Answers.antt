use Rattle.line_forms.proofs.OneForm.{tables, requests, lines}
use Rattle.line_forms.proofs.laws.law_one_form.Goals as goal

pub returns-clause-tables : goal.returns-clause-tables
returns-clause-tables c = tables c.law_one_answer.ensures

pub returns-clause-requests : goal.returns-clause-requests
returns-clause-requests c = requests c.law_one_answer.ensures

pub returns-clause-lines : goal.returns-clause-lines
returns-clause-lines c = lines c.law_one_answer.ensures
