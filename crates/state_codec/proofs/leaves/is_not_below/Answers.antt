use Rattle.std.proofs.Common.{rules, sym, ◌∙◌}
use Rattle.agg_terms.specs.Order.{compare}
use Rattle.value_types.specs.Folds.{value_of}
use Rattle.state_codec.proofs.Last.{last_holds}
use Rattle.state_codec.proofs.leaves.is_not_below.Goals as goal

pub returns-in-Some : goal.returns-in-Some
returns-in-Some c = (search rules) ∙ sym (last_holds value_of compare c.args.earlier.now c.in-Some.field-0-1.now c.in-Some.last.now (value_of c.args.value.now) c.in-Some.ensures.cases.0)
