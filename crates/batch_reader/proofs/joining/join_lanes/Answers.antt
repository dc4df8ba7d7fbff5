use Rattle.std.proofs.Common.{◌∙◌, ap, map, subst, sym}
use Rattle.typed_columns.specs.TypedValues.{TypedValues}
use Rattle.columns.specs.Rows.{AreLong, AreTyped, Rows, joined, rows_of, with_rows}
use Rattle.batch_reader.specs.proving.Joining.{columns_of}
use Rattle.batch_reader.specs.proving.Pieces.{AreOf, rows_in}
use Rattle.batch_reader.proofs.Joined.{are-columns, fit-in, rows-added}
use Rattle.batch_reader.proofs.joining.join_lanes.Goals as goal

pub invariant_of-batch : goal.invariant_of-batch
invariant_of-batch g c =
    let cs = c.batch.inside.columns.items in
    let lanes = c.args.lanes.now in
    let of = subst (λ ts. AreOf ts lanes) (sym (ap (λ (b : Rows). b.types) c.batch.view_is)) c.requires.types in
    let fits = fit-in (map (λ (d : TypedValues). d.ty) cs) lanes of c.in_ok-total.ensures.fit in
    let both = are-columns cs c.batch.inside.count (rows_in lanes) c.batch.invariant.0 c.batch.invariant.1 fits in
    subst (λ ds. AreLong ds c.in_ok-total.total × AreTyped ds) (sym c.in-Ok.ensures.ok)
    (subst (AreLong (joined cs (columns_of (map (λ (d : TypedValues). d.ty) cs) (rows_in lanes)))) (sym c.in_ok-total.ensures.total) both.0, both.1)

pub returns-in-Ok-clause-ok : goal.returns-in-Ok-clause-ok
returns-in-Ok-clause-ok g c =
    let cs = c.batch.inside.columns.items in
    let lanes = c.args.lanes.now in
    let of = subst (λ ts. AreOf ts lanes) (sym (ap (λ (b : Rows). b.types) c.batch.view_is)) c.requires.types in
    let fits = fit-in (map (λ (d : TypedValues). d.ty) cs) lanes of c.in_ok-total.ensures.fit in
    (λ i. rows_of (c.in-Ok.ensures.ok i) (c.in_ok-total.ensures.total i)) ∙ rows-added cs c.batch.inside.count (rows_in lanes) c.batch.invariant.0 fits
    ∙ ap (λ (b : Rows). with_rows b (rows_in lanes)) c.batch.view_is
