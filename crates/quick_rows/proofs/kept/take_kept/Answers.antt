use Rattle.std.proofs.Common.{◌+◌, List, ap, sym, ◌∙◌, subst}
use Rattle.std.specs.Prelude.{Ok}
use Rattle.value_types.specs.declared.ty.Ty.{Ty}
use Rattle.columns.specs.Rows.{AreLong, AreTyped, RowFits, rows_of, with_row}
use Rattle.columns.proofs.Rows.{long_pushed, rows_pushed, typed_pushed}
use Rattle.quick_rows.specs.Keeping.{kept}
use Rattle.quick_rows.specs.proving.Walking.{FillsKept}
use Rattle.quick_rows.proofs.KeptRows.{kept_fits}
use Rattle.quick_rows.proofs.kept.take_kept.Goals as goal

pub invariant_of-batch : goal.invariant_of-batch
invariant_of-batch g c =
    let cs = c.batch.inside.columns.items in
    let n = c.batch.inside.count in
    let filled = subst (λ b. FillsKept (g.R.StateReader.reads c.args.reader.now) n c.args.types.now c.args.keep.now cs c.args.line.now c.fill_kept.new.columns.items (Ok b)) c.in-Ok-true.field-0-test c.in-Ok-true.ensures in
    let row = kept c.args.keep.now filled.0 in
    let of = ap (λ b. b.types) c.batch.view_is ∙ c.requires.types in
    let fits = subst (λ (ts : List Ty). RowFits ts row) (sym of) (kept_fits c.args.keep.now c.args.types.now filled.0 filled.1) in
    subst (λ ds. AreLong ds (n + 1) × AreTyped ds) (sym filled.3) (long_pushed cs row n c.batch.invariant.0 fits, typed_pushed cs row c.batch.invariant.1 fits)

pub returns-in-Ok-true : goal.returns-in-Ok-true
returns-in-Ok-true g c =
    let cs = c.batch.inside.columns.items in
    let n = c.batch.inside.count in
    let filled = subst (λ b. FillsKept (g.R.StateReader.reads c.args.reader.now) n c.args.types.now c.args.keep.now cs c.args.line.now c.fill_kept.new.columns.items (Ok b)) c.in-Ok-true.field-0-test c.in-Ok-true.ensures in
    let row = kept c.args.keep.now filled.0 in
    let of = ap (λ b. b.types) c.batch.view_is ∙ c.requires.types in
    let fits = subst (λ (ts : List Ty). RowFits ts row) (sym of) (kept_fits c.args.keep.now c.args.types.now filled.0 filled.1) in
    (filled.0, filled.2, ap (λ ds. rows_of ds (n + 1)) filled.3 ∙ rows_pushed cs row n c.batch.invariant.0 fits ∙ ap (λ v. with_row v row) c.batch.view_is)
