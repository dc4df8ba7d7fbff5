use Rattle.line_forms.specs.Answers.{IsFirstFault, SpellsSelect}
use Rattle.line_forms.specs.Selects.{IsSelect}
use Rattle.line_forms.specs.Views.{select_of}
use Rattle.request_rules.specs.Selects.{judged_select}
use Rattle.request_rules.specs.Views.{plan_of, schema_of}
use Rattle.request_text.proofs.ShortLines.{select_few}
use Rattle.request_text.proofs.Told.{form_told}
use Rattle.request_text.proofs.lines.plan_in.Goals as goal

pub judge_select-requires-clause-few : goal.judge_select-requires-clause-few
judge_select-requires-clause-few c = select_few c.args.line.now (select_of c.in-Ok.select) c.requires.line c.in-Ok.ensures

pub returns-in-Ok-clause-judged : goal.returns-in-Ok-clause-judged
returns-in-Ok-clause-judged c =
    form_told (IsFirstFault IsSelect c.args.line.now) (SpellsSelect c.args.line.now) (judged_select (schema_of c.args.schema.now)) plan_of
    (select_of c.in-Ok.select) c.judge_select.result c.in-Ok.ensures c.judge_select.ensures.judged
