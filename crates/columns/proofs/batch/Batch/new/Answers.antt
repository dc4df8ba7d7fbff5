use Rattle.std.proofs.Common.{ap, arith, subst, sym, take, ◌∙◌}
use Rattle.std.proofs.lemmas.List.{take_all}
use Rattle.columns.specs.Rows.{AreLong, AreTyped, no_rows, rows_of}
use Rattle.columns.proofs.Rows.{long_new, rows_new, typed_new}
use Rattle.columns.proofs.batch.Batch.new.Goals as goal

pub invariant_of-result : goal.invariant_of-result
invariant_of-result c =
    let types = take c.loop-ty.ty-index c.args.types.now in
    subst (λ cs. AreLong cs 0 × AreTyped cs) (sym c.loop-ty.invariant) (long_new types, typed_new types)

pub returns : goal.returns
returns c =
    ap (λ cs. rows_of cs 0) c.loop-ty.invariant ∙ rows_new (take c.loop-ty.ty-index c.args.types.now)
    ∙ ap no_rows (take_all c.loop-ty.ty-index c.args.types.now (omega (arith, c.loop-ty-test.false)))
