use Rattle.query_run.proofs.Endings.{completes}
use Rattle.query_run.proofs.run.run_query.Goals as goal

pub returns-clause-complete : goal.returns-clause-complete
returns-clause-complete g c = completes c.law_one_outcome.ensures g.S.Source.left c.args.source.now c.run.new.source _ c.run.result c.run.ensures
