use Rattle.value_types.proofs.Images.{narrow, wide}
use Rattle.value_types.proofs.laws.law_types.Goals as goal

pub returns-clause-widths : goal.returns-clause-widths
returns-clause-widths c = wide

pub returns-clause-narrow : goal.returns-clause-narrow
returns-clause-narrow c = narrow
