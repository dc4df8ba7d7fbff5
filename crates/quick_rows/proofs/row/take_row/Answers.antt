use Rattle.std.proofs.Common.{◌+◌, ap, sym, ◌∙◌, subst}
use Rattle.std.specs.Prelude.{Ok}
use Rattle.tsv_text.specs.Lines.{fields_of}
use Rattle.columns.specs.Rows.{AreLong, AreTyped, rows_of, with_row}
use Rattle.columns.proofs.Rows.{long_pushed, rows_pushed, typed_pushed}
use Rattle.quick_rows.specs.Taking.{AreSaid, FillsColumns}
use Rattle.quick_rows.proofs.row.take_row.Goals as goal

pub invariant_of-batch : goal.invariant_of-batch
invariant_of-batch c =
    let cs = c.batch.inside.columns.items in
    let n = c.batch.inside.count in
    let filled = subst (λ b. FillsColumns n cs c.args.line.now c.fill.new.columns.items (Ok b)) c.in-Ok-true.field-0-test c.in-Ok-true.ensures in
    subst (λ ds. AreLong ds (n + 1) × AreTyped ds) (sym filled.3)
    (long_pushed cs filled.0 n c.batch.invariant.0 filled.1, typed_pushed cs filled.0 c.batch.invariant.1 filled.1)

pub returns-in-Ok-true : goal.returns-in-Ok-true
returns-in-Ok-true c =
    let cs = c.batch.inside.columns.items in
    let n = c.batch.inside.count in
    let filled = subst (λ b. FillsColumns n cs c.args.line.now c.fill.new.columns.items (Ok b)) c.in-Ok-true.field-0-test c.in-Ok-true.ensures in (
      filled.0,
      subst (λ v. AreSaid v.types (fields_of c.args.line.now) filled.0) c.batch.view_is filled.2,
      ap (λ ds. rows_of ds (n + 1)) filled.3 ∙ rows_pushed cs filled.0 n c.batch.invariant.0 filled.1 ∙ ap (λ v. with_row v filled.0) c.batch.view_is,
    )
