use Rattle.tsv_values.proofs.OneField.{one_field_answer}
use Rattle.tsv_values.proofs.laws.law_one_field_answer.Goals as goal

pub returns : goal.returns
returns c = one_field_answer c.law_one_answer.ensures
