use Rattle.window_funnel.proofs.Joined.{front_blank}
use Rattle.window_funnel.proofs.funnel.level.Goals as goal

pub level_from-requires-clause-blank : goal.level_from-requires-clause-blank
level_from-requires-clause-blank c = front_blank c.args.conditions 32
