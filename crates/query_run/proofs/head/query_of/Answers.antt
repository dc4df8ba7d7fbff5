use Rattle.std.proofs.Common.{subst, sym}
use Rattle.query_run.specs.proving.Heads.{RefusesQuery}
use Rattle.query_run.proofs.Requests.{few-columns, legal-columns, query-refused}
use Rattle.query_run.proofs.head.query_of.Goals as goal

pub returns-in-Ok-clause-few : goal.returns-in-Ok-clause-few
returns-in-Ok-clause-few c = few-columns c.law_one_query.ensures.tables c.args.table.now c.in-Ok.query.schema c.requires.judged c.in-Ok.ensures.query.0

pub returns-in-Ok-clause-legal : goal.returns-in-Ok-clause-legal
returns-in-Ok-clause-legal c = legal-columns c.law_one_query.ensures.tables c.args.table.now c.in-Ok.query.schema c.requires.judged c.in-Ok.ensures.query.0

pub returns-in-Err-clause-refused : goal.returns-in-Err-clause-refused
returns-in-Err-clause-refused c =
    subst (RefusesQuery c.args.table.now c.args.request.now) (sym c.refused.ensures) (query-refused c.args.table.now c.args.request.now c.in-Err.fault c.in-Err.ensures.query)
