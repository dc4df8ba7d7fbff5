use Rattle.std.proofs.Common.{◌<◌, List, length, subst}
use Rattle.agg_defs.specs.declared.views.View.{View}
use Rattle.script_text.proofs.Stepped.{view_kept, views_more}
use Rattle.script_text.proofs.steps.add_view.Goals as goal

pub returns-clause-sessions : goal.returns-clause-sessions
returns-clause-sessions c = λ text h. view_kept text c.args.script c.in_ok-view.view c.push.new.self c.in_ok-push.ensures.ok h

pub returns-clause-views : goal.returns-clause-views
returns-clause-views c =
    views_more c.args.script.views c.in_ok-view.view c.push.new.self c.in_ok-push.ensures.ok
    (subst (λ (views : List View). length views < 16) c.as_slice-views.ensures c.in_ok-view.ensures.few) c.requires.views c.in_ok-view.ensures.fits
