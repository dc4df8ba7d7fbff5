use Rattle.std.proofs.Common.{length, ap, arith}
use Rattle.columns.proofs.Rows.{count_rows, long_trim, rows_first, typed_trim}
use Rattle.columns.proofs.batch.Batch.truncate.Goals as goal

pub invariant_of-self : goal.invariant_of-self
invariant_of-self c =
    let cs = c.self.inside.columns.items in
    rw c.trim_each.ensures (
      long_trim cs c.self.inside.count c.args.count c.self.invariant.0 (omega (arith, c.requires, ap (λ v. length v.rows) c.self.view_is, count_rows cs c.self.inside.count)),
      typed_trim cs c.args.count c.self.invariant.1,
    )

pub returns : goal.returns
returns c =
    let cs = c.self.inside.columns.items in
    rw (c.trim_each.ensures, ← c.self.view_is) (rows_first cs c.self.inside.count c.args.count
    (omega (arith, c.requires, ap (λ v. length v.rows) c.self.view_is, count_rows cs c.self.inside.count)))
