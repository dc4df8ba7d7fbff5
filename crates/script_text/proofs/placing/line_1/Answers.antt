use Rattle.std.proofs.Common.{arith}
use Rattle.std.proofs.lemmas.Grind.{common_steps}
use Rattle.script_text.proofs.Placed.{empty_first, empty_rest}
use Rattle.script_text.proofs.placing.line_1.Goals as goal

pub returns-then-is_empty-clause-line : goal.returns-then-is_empty-clause-line
returns-then-is_empty-clause-line c = empty_first c.args.text.now (grind (arith, common_steps))

pub returns-then-is_empty-clause-lines : goal.returns-then-is_empty-clause-lines
returns-then-is_empty-clause-lines c = empty_rest c.args.text.now (grind (arith, common_steps))
