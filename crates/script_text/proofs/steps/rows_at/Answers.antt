use Rattle.std.proofs.Common.{arith}
use Rattle.script_text.proofs.Placed.{as_many}
use Rattle.script_text.proofs.steps.rows_at.Goals as goal

pub returns-in-Some-clause-within : goal.returns-in-Some-clause-within
returns-in-Some-clause-within c = (
  (let far = c.in-Some.ensures.3 in omega (arith, far)),
  c.in-Some.ensures.4,
  as_many c.args.text.now c.args.at c.in-Some.to c.args.count c.in-Some.ensures.0 c.in-Some.ensures.2,
)
