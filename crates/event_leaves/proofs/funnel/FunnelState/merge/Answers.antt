use Rattle.std.proofs.lemmas.Result.{on_ok_weaker}
use Rattle.event_leaves.proofs.Funnels.{rows_taken}
use Rattle.event_leaves.proofs.funnel.FunnelState.merge.Goals as goal

pub returns-clause-rows : goal.returns-clause-rows
returns-clause-rows c =
    on_ok_weaker _
    (rows_taken c.args.self.now.window c.args.later.now.window c.args.self.now.is_strict c.args.later.now.is_strict c.args.self.now.rows c.args.later.now.rows c.merge.new.self c.merge.ensures.sound c.merge.ensures.later_sound)
    c.merge.ensures.ok
