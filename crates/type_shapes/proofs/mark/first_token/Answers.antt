use Rattle.type_shapes.proofs.Values.{seen_valued}
use Rattle.type_shapes.proofs.mark.first_token.Goals as goal

pub returns-clause-valued : goal.returns-clause-valued
returns-clause-valued c = seen_valued _ c.args.text.now c.next_token.result c.next_token.ensures.tokens
