use Rattle.std.proofs.Common.{subst}
use Rattle.type_shapes.proofs.Values.{AllValued, valued}
use Rattle.request_lines.proofs.rest.Rest.first.Goals as goal

pub returns-clause-valued : goal.returns-clause-valued
returns-clause-valued c = (subst AllValued c.in_ok-placed.ensures.tokens (valued c.args.self.text.now)).0
