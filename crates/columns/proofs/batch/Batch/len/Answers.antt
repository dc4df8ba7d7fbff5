use Rattle.std.proofs.Common.{length, ap, sym, ◌∙◌, subst}
use Rattle.std.specs.List.{All}
use Rattle.columns.specs.Rows.{RowFits}
use Rattle.columns.proofs.Rows.{count_rows, rows_fit}
use Rattle.columns.proofs.batch.Batch.len.Goals as goal

pub returns-clause-count : goal.returns-clause-count
returns-clause-count c = sym (count_rows c.self.inside.columns.items c.self.inside.count) ∙ ap (λ v. length v.rows) c.self.view_is

pub returns-clause-fit : goal.returns-clause-fit
returns-clause-fit c =
    subst (λ v. All (RowFits v.types) v.rows) c.self.view_is (rows_fit c.self.inside.columns.items c.self.inside.count c.self.invariant.0 c.self.invariant.1)
