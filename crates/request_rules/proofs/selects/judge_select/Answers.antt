use Rattle.line_forms.specs.Views.{select_of}
use Rattle.request_rules.proofs.PlansFit.{answer_fits}
use Rattle.request_rules.proofs.selects.judge_select.Goals as goal

pub returns-clause-fits : goal.returns-clause-fits
returns-clause-fits c =
    answer_fits c.law_typing.ensures.allowed_is_legal c.args.schema.now c.requires.legal (select_of c.args.select.now) c.judge_plan.result c.judge_plan.ensures
