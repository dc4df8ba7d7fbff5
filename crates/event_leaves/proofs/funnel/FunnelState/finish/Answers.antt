use Rattle.std.proofs.Common.{map}
use Rattle.value_types.specs.Folds.{event_of, value_of}
use Rattle.event_leaves.proofs.Funnels.{level_known}
use Rattle.event_leaves.proofs.funnel.FunnelState.finish.Goals as goal

pub returns-clause-means : goal.returns-clause-means
returns-clause-means c =
    level_known c.args.self.now.window c.args.self.now.is_strict c.args.self.now.rows c.conditions-conditions.result c.level-level.result (map event_of c.events.result.now) (value_of c.as_value.result) c.events.ensures.sound
    c.conditions-conditions.ensures.conditions c.events.ensures.events c.level-level.ensures c.as_value.ensures
