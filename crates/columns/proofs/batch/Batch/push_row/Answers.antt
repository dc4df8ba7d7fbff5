use Rattle.std.proofs.Common.{sym, subst}
use Rattle.columns.specs.Rows.{RowFits}
use Rattle.columns.proofs.Rows.{fit_length, long_pushed, rows_pushed, typed_pushed}
use Rattle.columns.proofs.batch.Batch.push_row.Goals as goal

pub invariant_of-self-2 : goal.invariant_of-self-2
invariant_of-self-2 c =
    let cs = c.self.inside.columns.items in
    let fit = subst (λ v. RowFits v.types c.args.row.now) (sym c.self.view_is) c.requires in
    rw c.in_ok-push_each.ensures.ok (long_pushed cs _ _ c.self.invariant.0 fit, typed_pushed cs _ c.self.invariant.1 fit)

pub returns-clause-ok : goal.returns-clause-ok
returns-clause-ok c =
    let fit = subst (λ v. RowFits v.types c.args.row.now) (sym c.self.view_is) c.requires in
    rw (c.in_ok-push_each.ensures.ok, ← c.self.view_is) (rows_pushed _ _ _ c.self.invariant.0 fit)

pub push_each-requires-clause-same : goal.push_each-requires-clause-same
push_each-requires-clause-same c = fit_length _ _ (subst (λ v. RowFits v.types c.args.row.now) (sym c.self.view_is) c.requires)
