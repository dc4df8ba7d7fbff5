use Rattle.std.proofs.Common.{OnOk, sym, subst, ◌≡◌, ◌∙◌}
use Rattle.columns.specs.Rows.{RowFits, with_row}
use Rattle.batch_reader.proofs.Kept.{whole-fits, whole-row}
use Rattle.batch_reader.proofs.keeping.push_kept.Goals as goal

pub push_row-requires : goal.push_row-requires
push_row-requires c =
    let all = sym c.are_all_kept.ensures ∙ c.if-are_all_kept.true in
    subst (λ ts. RowFits ts c.args.row.now) (sym c.requires.types) (whole-fits c.args.keep.now c.args.types.now c.args.row.now all c.requires.marks c.requires.fits)

pub returns-then-are_all_kept-clause-ok : goal.returns-then-are_all_kept-clause-ok
returns-then-are_all_kept-clause-ok c =
    let all = sym c.are_all_kept.ensures ∙ c.if-are_all_kept.true in
    subst (λ row. OnOk c.push_row.result (c.push_row.new.self ≡ with_row c.args.batch.now row)) (whole-row c.args.keep.now c.args.types.now c.args.row.now all c.requires.marks c.requires.fits) c.push_row.ensures.ok
