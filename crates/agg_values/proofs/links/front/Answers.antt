use Rattle.std.proofs.Common.{ap, sym, ◌∙◌}
use Rattle.agg_terms.specs.Lists.{front}
use Rattle.agg_values.proofs.Inward.{front-last}
use Rattle.agg_values.proofs.links.front.Goals as goal

pub returns-in-Some : goal.returns-in-Some
returns-in-Some c = sym (ap front c.in-Some.ensures.cases.0 ∙ front-last c.in-Some.front.now c.in-Some.field-0-0.now)
