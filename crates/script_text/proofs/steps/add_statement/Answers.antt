use Rattle.std.proofs.Common.{subst, sym}
use Rattle.script_text.specs.Answers.{AreSessions}
use Rattle.script_text.specs.declared.script.Session.{Session}
use Rattle.script_text.proofs.Stepped.{With, none_kept, statement_added, statement_kept, statement_lost}
use Rattle.script_text.proofs.steps.add_statement.Goals as goal
use Rattle.script_text.proofs.steps.add_statement.Goals.{in-Some+in_ok-push+in_ok-push-2, in_default}

pub returns-clause-added : goal.returns-clause-added
returns-clause-added c =
    λ text. elim c.match-pop.branch [
      | in-Some+in_ok-push+in_ok-push-2 w ↦
          let more : Session = record { statements = w.push.new.self } in
          subst (With text c.args.script c.args.statement) (sym w.script-is)
          (statement_added text c.args.script c.pop.new.self w.push-in-Some.new.self w.in-Some.session more c.args.statement w.in-Some.ensures w.in_ok-push.ensures.ok w.in_ok-push-2.ensures.ok)
      | in_default w ↦
          subst (With text c.args.script c.args.statement) (sym w.script-is) (statement_lost text c.args.script c.pop.new.self c.args.statement w.in_default.ensures.0 w.in_default.ensures.1)
    ]

pub returns-clause-sessions : goal.returns-clause-sessions
returns-clause-sessions c =
    λ text h one. elim c.match-pop.branch [
      | in-Some+in_ok-push+in_ok-push-2 w ↦
          let more : Session = record { statements = w.push.new.self } in
          subst (AreSessions text) (sym w.script-is)
          (statement_kept text c.args.script c.pop.new.self w.push-in-Some.new.self w.in-Some.session more c.args.statement w.in-Some.ensures w.in_ok-push.ensures.ok w.in_ok-push-2.ensures.ok h one)
      | in_default w ↦ subst (AreSessions text) (sym w.script-is) (none_kept text c.args.script c.pop.new.self w.in_default.ensures.1)
    ]
