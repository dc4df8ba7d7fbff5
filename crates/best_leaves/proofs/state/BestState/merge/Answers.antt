use Rattle.best_leaves.proofs.States.{later_kept, later_stays, none_later}
use Rattle.best_leaves.proofs.state.BestState.merge.Goals as goal

pub returns-then-not-later_beats-clause-rows : goal.returns-then-not-later_beats-clause-rows
returns-then-not-later_beats-clause-rows c =
    later_stays c.args.self.now.made c.args.self.now.best c.later_beats.result c.args.later.now.made c.args.later.now.best _ c.in-Some.is c.later_beats.ensures c.if-not-later_beats.true

pub returns-in-None-clause-rows : goal.returns-in-None-clause-rows
returns-in-None-clause-rows c = none_later c.args.self.now.made c.args.later.now.made c.args.self.now.best c.args.later.now.best c.in-None.is

pub returns-in_ok-copy-in-Some-clause-rows : goal.returns-in_ok-copy-in-Some-clause-rows
returns-in_ok-copy-in-Some-clause-rows c =
    later_kept c.args.self.now.made c.args.self.now.best c.later_beats.result c.args.later.now.made c.args.later.now.best _ _ c.in-Some.is c.later_beats.ensures c.if-not-later_beats.false c.in_ok-copy-in-Some.ensures
