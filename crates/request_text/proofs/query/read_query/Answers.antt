use Rattle.std.proofs.Common.{subst, sym, Err}
use Rattle.refusals.specs.declared.why.RequestFault.{RequestFault}
use Rattle.request_text.specs.Queries.{IsQueryAnswer}
use Rattle.request_text.proofs.Told.{query_refused}
use Rattle.request_text.proofs.query.read_query.Goals as goal

pub returns-in-Err-plan_in-clause-query : goal.returns-in-Err-plan_in-clause-query
returns-in-Err-plan_in-clause-query c =
    subst (λ (fault : RequestFault). IsQueryAnswer c.args.line1.now c.args.line2.now (Err fault)) (sym c.on_line-in-Err-plan_in.ensures)
    (query_refused c.args.line1.now c.args.line2.now c.in-Ok.schema c.in-Err-plan_in.refusal c.in-Ok.ensures.judged c.in-Err-plan_in.ensures.judged)
