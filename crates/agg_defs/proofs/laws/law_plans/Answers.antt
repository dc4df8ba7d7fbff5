use Rattle.agg_defs.proofs.Plans.{columns_are_narrow, fitting_is_legal}
use Rattle.agg_defs.proofs.laws.law_plans.Goals as goal

pub returns-clause-legal : goal.returns-clause-legal
returns-clause-legal c = fitting_is_legal c.law_typing.ensures.legal_is_lawful

pub returns-clause-narrow : goal.returns-clause-narrow
returns-clause-narrow c = columns_are_narrow c.law_types.ensures.narrow
