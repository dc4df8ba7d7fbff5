use Rattle.std.proofs.Common.{length, ap, sym, ◌∙◌, arith}
use Rattle.std.specs.List.{slice_get}
use Rattle.std.proofs.lemmas.List.{length-map}
use Rattle.columns.specs.Rows.{column_at}
use Rattle.columns.proofs.Rows.{column_all, column_fits, type_at}
use Rattle.columns.proofs.batch.Batch.column.Goals as goal

pub index-requires : goal.index-requires
index-requires c =
    let cs = c.self.inside.columns.items in
    omega (arith, c.requires, ap (λ v. length v.types) c.self.view_is, length-map cs (λ d. d.ty), c.self.inside.columns.ok)

pub returns-clause-ty : goal.returns-clause-ty
returns-clause-ty c =
    let cs = c.self.inside.columns.items in
    ap (λ v. slice_get v.types c.args.place) (sym c.self.view_is)
    ∙ type_at cs c.args.place c.index.result.now (omega (arith, c.requires, ap (λ v. length v.types) c.self.view_is, length-map cs (λ d. d.ty))) c.index.ensures

pub returns-clause-values : goal.returns-clause-values
returns-clause-values c =
    let cs = c.self.inside.columns.items in
    column_all cs c.self.inside.count c.args.place c.index.result.now c.self.invariant.0
    (omega (arith, c.requires, ap (λ v. length v.types) c.self.view_is, length-map cs (λ d. d.ty))) c.index.ensures
    ∙ ap (λ v. column_at c.args.place v.rows) c.self.view_is

pub returns-clause-fit : goal.returns-clause-fit
returns-clause-fit c =
    let cs = c.self.inside.columns.items in
    column_fits cs c.args.place c.index.result.now c.self.invariant.1
    (omega (arith, c.requires, ap (λ v. length v.types) c.self.view_is, length-map cs (λ d. d.ty))) c.index.ensures
