use Rattle.std.proofs.Common.{◌≡◌, ◌<◌, List, Ok, length, subst, sym}
use Rattle.agg_defs.specs.declared.views.View.{View}
use Rattle.line_forms.specs.Views.{name_of}
use Rattle.script_rules.specs.Folds.{views_of}
use Rattle.script_rules.specs.Views.{known_view}
use Rattle.script_text.specs.Answers.{AreViews}
use Rattle.script_text.proofs.Stepped.{load_step}
use Rattle.script_text.proofs.steps.add_load.Goals as goal

pub returns : goal.returns
returns c = (
  load_step c.args.text.now c.args.script c.in_ok-script.script c.args.at c.args.count c.in_ok-view.view (name_of c.args.name.now) c.in_ok-lines.lines
      (subst (λ (views : List View). known_view (views_of views) (name_of c.args.name.now) ≡ Ok c.in_ok-view.view) c.as_slice.ensures c.in_ok-view.ensures.known) c.in_ok-lines.ensures.taken c.in_ok-lines.ensures.all
      (c.in_ok-script.ensures.added c.args.text.now),
  record {
    views = subst AreViews (sym c.in_ok-script.ensures.views) c.requires.views;
    sessions = c.in_ok-script.ensures.sessions c.args.text.now c.requires.sessions (subst (λ (views : List View). c.in_ok-view.view < length views) c.as_slice.ensures c.in_ok-view.ensures.in_range, c.in_ok-lines.ensures.within);
    taken = c.in_ok-lines.ensures.behind;
  },
)
