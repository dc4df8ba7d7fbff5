use Rattle.std.proofs.Common.{◌<◌, List, length, subst}
use Rattle.agg_defs.specs.declared.views.View.{View}
use Rattle.script_text.proofs.steps.add_states.Goals as goal

pub returns-clause-sessions : goal.returns-clause-sessions
returns-clause-sessions c =
    λ text h. c.in_ok-after.ensures.sessions text h (subst (λ (views : List View). c.in_ok-view.view < length views) c.as_slice.ensures c.in_ok-view.ensures.in_range)
