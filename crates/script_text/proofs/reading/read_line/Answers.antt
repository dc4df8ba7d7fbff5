use Rattle.std.proofs.Common.{◌∙◌, Bool, Err, arith, not, subst, sym}
use Rattle.line_forms.specs.Views.{line_of}
use Rattle.request_rules.specs.declared.refusal.Refusal.{Refusal}
use Rattle.script_text.specs.Forms.{IsFormIn, SpellsLineIn}
use Rattle.script_text.specs.proving.Taking.{IsJudgedAt, Steps}
use Rattle.script_text.proofs.Read.{form_steps, no_form_steps, started}
use Rattle.script_text.proofs.ShortLines.{line_few}
use Rattle.script_text.proofs.reading.read_line.Goals as goal

pub add_line-requires-clause-few : goal.add_line-requires-clause-few
add_line-requires-clause-few c = line_few (not c.is_empty.result) c.args.line.now (line_of c.in-Ok.form) (omega (arith, c.requires.line, c.requires.short)) c.in-Ok.ensures

pub returns-in-Ok : goal.returns-in-Ok
returns-in-Ok c =
    form_steps c.args.text.now c.args.script c.args.line.now c.args.behind (line_of c.in-Ok.form) c.add_line.result (sym c.is_blank.ensures ∙ c.if-is_blank.false)
    (subst (λ (b : Bool). SpellsLineIn b c.args.line.now (line_of c.in-Ok.form)) (started c.is_empty.result c.args.text.now c.args.script.sessions c.is_empty.ensures) c.in-Ok.ensures)
    c.add_line.ensures

pub returns-in-Err : goal.returns-in-Err
returns-in-Err c =
    subst (λ (refusal : Refusal). Steps c.args.text.now c.args.behind (IsJudgedAt c.args.text.now c.args.script c.args.line.now c.args.behind) (Err refusal)) (sym c.no_form.ensures)
    (no_form_steps c.args.text.now c.args.script c.args.line.now c.args.behind c.in-Err.fault (sym c.is_blank.ensures ∙ c.if-is_blank.false)
    (subst (λ (b : Bool). IsFormIn b c.args.line.now (Err c.in-Err.fault)) (started c.is_empty.result c.args.text.now c.args.script.sessions c.is_empty.ensures) c.in-Err.ensures))
