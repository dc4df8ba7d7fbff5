use Rattle.std.proofs.Common.{◌<◌, length, ap, sym, ◌∙◌, subst, arith, get_or, []}
use Rattle.std.specs.List.{slice_get}
use Rattle.std.proofs.lemmas.List.{length-map}
use Rattle.value_types.specs.declared.value.Value.TheVariants.{Nil}
use Rattle.columns.proofs.Rows.{row_is, long_at, item_of, count_rows}
use Rattle.columns.proofs.batch.Batch.item.Goals as goal

pub index-requires : goal.index-requires
index-requires c =
    let cs = c.self.inside.columns.items in
    let within : c.args.place < c.self.inside.count = subst (λ n. c.args.place < n) (count_rows cs c.self.inside.count) (subst (λ v. c.args.place < length v.rows) (sym c.self.view_is) c.requires.row) in
    let row = ap (λ v. length (get_or v.rows c.args.place [])) (sym c.self.view_is) ∙ ap length (row_is cs c.self.inside.count c.args.place within) in
    omega (arith, c.requires.column, row, length-map cs (λ d. get_or d.values c.args.place Nil), c.self.inside.columns.ok)

pub item-requires : goal.item-requires
item-requires c =
    let cs = c.self.inside.columns.items in
    let within : c.args.place < c.self.inside.count = subst (λ n. c.args.place < n) (count_rows cs c.self.inside.count) (subst (λ v. c.args.place < length v.rows) (sym c.self.view_is) c.requires.row) in
    let row = ap (λ v. length (get_or v.rows c.args.place [])) (sym c.self.view_is) ∙ ap length (row_is cs c.self.inside.count c.args.place within) in
    omega (arith, within, long_at cs c.self.inside.count c.args.column c.index.result.now c.self.invariant.0 (omega (arith, c.requires.column, row, length-map cs (λ d. get_or d.values c.args.place Nil))) c.index.ensures)

pub returns : goal.returns
returns c =
    let cs = c.self.inside.columns.items in
    let within : c.args.place < c.self.inside.count = subst (λ n. c.args.place < n) (count_rows cs c.self.inside.count) (subst (λ v. c.args.place < length v.rows) (sym c.self.view_is) c.requires.row) in
    let same = ap (λ v. get_or v.rows c.args.place []) (sym c.self.view_is) ∙ row_is cs c.self.inside.count c.args.place within in
    ap (λ r. slice_get r c.args.column) same
    ∙ item_of cs c.args.place c.args.column c.index.result.now _
    (omega (arith, c.requires.column, ap length same, length-map cs (λ d. get_or d.values c.args.place Nil))) c.index.ensures c.item.ensures
