use Rattle.script_text.proofs.OneScript.{one_answer, one_script}
use Rattle.script_text.proofs.laws.law_one_script.Goals as goal

pub returns-clause-scripts : goal.returns-clause-scripts
returns-clause-scripts c = one_script c.law_one_query.ensures.tables c.law_one_form.ensures.lines

pub returns-clause-answers : goal.returns-clause-answers
returns-clause-answers c = one_answer (one_script c.law_one_query.ensures.tables c.law_one_form.ensures.lines)
