use Rattle.std.proofs.Common.{◌<◌, [], length, get_or, ap, subst, arith}
use Rattle.std.proofs.lemmas.Option.{get_or_from_slice_get}
use Rattle.columns.specs.Rows.{RowFits}
use Rattle.columns.proofs.Rows.{count_rows, row_fits}
use Rattle.columns.proofs.batch.Batch.row.Goals as goal

pub returns-clause-fits : goal.returns-clause-fits
returns-clause-fits c =
    let cs = c.self.inside.columns.items in
    let n = c.self.inside.count in
    let i = c.args.place in
    let within : i < n = omega (arith, c.requires, ap (λ v. length v.rows) c.self.view_is, count_rows cs n) in
    subst (RowFits c.args.self.now.types) (get_or_from_slice_get c.args.self.now.rows i c.of.result [] c.of.ensures)
    (subst (λ v. RowFits v.types (get_or v.rows i [])) c.self.view_is (row_fits cs n i c.self.invariant.0 c.self.invariant.1 within))
