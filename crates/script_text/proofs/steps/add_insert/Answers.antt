use Rattle.std.proofs.Common.{subst, sym}
use Rattle.script_text.specs.Answers.{AreViews}
use Rattle.script_text.proofs.Stepped.{insert_step}
use Rattle.script_text.proofs.steps.add_insert.Goals as goal

pub returns : goal.returns
returns c = (
  insert_step c.args.text.now c.args.script c.in_ok-script.script c.args.at c.args.count c.in_ok-lines.lines c.in_ok-lines.ensures.taken c.in_ok-lines.ensures.all
      (c.in_ok-script.ensures.added c.args.text.now),
  record {
    views = subst AreViews (sym c.in_ok-script.ensures.views) c.requires.views;
    sessions = c.in_ok-script.ensures.sessions c.args.text.now c.requires.sessions c.in_ok-lines.ensures.within;
    taken = c.in_ok-lines.ensures.behind;
  },
)
