use Rattle.std.proofs.Common.{◌∙◌, ap, map}
use Rattle.best_leaves.specs.Best.{beats_kept, pairs}
use Rattle.best_leaves.specs.Rows.{argument}
use Rattle.best_leaves.proofs.States.{row_kept, row_stays}
use Rattle.best_leaves.proofs.state.BestState.feed_items.Goals as goal

pub returns-then-not-branch-clause-row : goal.returns-then-not-branch-clause-row
returns-then-not-branch-clause-row c =
    row_stays c.args.self.now.made c.args.self.now.best c.in_ok-beats.field-0 (map argument c.args.row.now)
    (c.in_ok-beats.ensures ∙ ap (λ v. beats_kept c.args.self.now.made.function v (pairs c.args.self.now.best)) c.compared_in.ensures) c.if-not-branch.true

pub returns-clause-row : goal.returns-clause-row
returns-clause-row c =
    row_kept c.args.self.now.made c.args.self.now.best c.in_ok-beats.field-0 (map argument c.args.row.now) c.in_ok-kept_in.field-0
    (c.in_ok-beats.ensures ∙ ap (λ v. beats_kept c.args.self.now.made.function v (pairs c.args.self.now.best)) c.compared_in.ensures) c.if-not-branch.false
    c.in_ok-kept_in.ensures
