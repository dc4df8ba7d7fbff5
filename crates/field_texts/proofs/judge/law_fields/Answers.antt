use Rattle.field_texts.proofs.Law.{judge_exact}
use Rattle.field_texts.proofs.judge.law_fields.Goals as goal

pub returns : goal.returns
returns c = judge_exact
