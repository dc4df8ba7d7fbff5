use Rattle.type_texts.proofs.Behind.{mode_added}
use Rattle.type_texts.proofs.param_texts.add_mode.Goals as goal

pub returns-in_ok-quoted_text : goal.returns-in_ok-quoted_text
returns-in_ok-quoted_text c = mode_added _ _ _ c.args.strict c.push.result c.if-strict.true c.in_ok-quoted_text.ensures c.push.ensures.ok
