use Rattle.query_run.proofs.OneOutcome.{one-outcome}
use Rattle.query_run.proofs.laws.law_one_outcome.Goals as goal

pub returns : goal.returns
returns c =
    one-outcome c.law_folds.ensures.types c.law_one_query.ensures.tables c.law_one_query.ensures.requests c.law_one_row.ensures.rows c.law_one_row.ensures.refused c.law_one_row.ensures.either
