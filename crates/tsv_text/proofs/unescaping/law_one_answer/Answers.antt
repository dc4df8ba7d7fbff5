use Rattle.tsv_text.proofs.OneAnswer.{one_answer}
use Rattle.tsv_text.proofs.unescaping.law_one_answer.Goals as goal

pub returns : goal.returns
returns c = one_answer
