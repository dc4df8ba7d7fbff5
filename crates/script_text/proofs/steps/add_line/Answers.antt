use Rattle.std.proofs.Common.{◌≡◌, ap, of_z, refl, rules, subst, to_z, ℤ}
use Rattle.std.specs.Int.{w128}
use Rattle.line_forms.specs.ScriptLines as forms
use Rattle.line_forms.specs.Views.{line_of, name_of, select_of}
use Rattle.request_rules.specs.Answers.{Says}
use Rattle.script_text.specs.Answers.{script_of}
use Rattle.script_text.specs.Steps.{session_added}
use Rattle.script_text.proofs.Stepped.{alone_line, keeps_views}
use Rattle.script_text.proofs.steps.add_line.Goals as goal

pub returns-in-View : goal.returns-in-View
returns-in-View c =
    alone_line c.args.text.now c.args.script c.args.at c.args.form.now (forms.View (name_of c.in-View.name) (select_of c.in-View.select)) c.add_view.result c.alone.result (ap line_of c.in-View.is) c.alone.ensures refl c.requires.within
    (c.add_view.ensures.added c.args.text.now) c.add_view.ensures.views (c.add_view.ensures.sessions c.args.text.now c.requires.sessions)

pub returns-in-Session : goal.returns-in-Session
returns-in-Session c =
    let same : to_z w128 (of_z w128 c.in-Session.number) ≡ c.in-Session.number = search rules in
    alone_line c.args.text.now c.args.script c.args.at c.args.form.now (forms.Session c.in-Session.place c.in-Session.number) c.add_session.result c.alone-in-Session.result (ap line_of c.in-Session.is) c.alone-in-Session.ensures refl c.requires.within
    (subst (λ (z : ℤ). Says (script_of c.args.text.now) c.add_session.result (session_added (script_of c.args.text.now c.args.script) c.in-Session.place z)) same (c.add_session.ensures.added c.args.text.now))
    (keeps_views c.args.script c.add_session.result c.requires.views c.add_session.ensures.views) (c.add_session.ensures.sessions c.args.text.now c.requires.sessions)

pub returns-in-Read : goal.returns-in-Read
returns-in-Read c =
    alone_line c.args.text.now c.args.script c.args.at c.args.form.now (forms.Read (name_of c.in-Read.view)) c.add_read.result c.alone-in-Read.result (ap line_of c.in-Read.is) c.alone-in-Read.ensures refl c.requires.within
    (c.add_read.ensures.added c.args.text.now) (keeps_views c.args.script c.add_read.result c.requires.views c.add_read.ensures.views) (c.add_read.ensures.sessions c.args.text.now c.requires.sessions)

pub returns-in-States : goal.returns-in-States
returns-in-States c =
    alone_line c.args.text.now c.args.script c.args.at c.args.form.now (forms.States (name_of c.in-States.view)) c.add_states.result c.alone-in-States.result (ap line_of c.in-States.is) c.alone-in-States.ensures refl c.requires.within
    (c.add_states.ensures.added c.args.text.now) (keeps_views c.args.script c.add_states.result c.requires.views c.add_states.ensures.views) (c.add_states.ensures.sessions c.args.text.now c.requires.sessions)
