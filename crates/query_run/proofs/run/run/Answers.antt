use Rattle.std.proofs.Common.{refl}
use Rattle.query_run.specs.Runs.{IsQueryRun}
use Rattle.query_run.proofs.Endings.{ends-refused, keeps-same}
use Rattle.query_run.proofs.run.run.Goals as goal

pub returns : goal.returns
returns g c =
    ends-refused (IsQueryRun g.S.Source.left c.args.source.now c.answer.new.source) (g.S.Source.left c.answer.new.source) _ c.in-Err.status c.in-Err.ensures.refusal c.in-Err.ensures.refused c.in-Err.ensures.cause
    (keeps-same (g.K.Sink.held c.args.sink.now)) refl
