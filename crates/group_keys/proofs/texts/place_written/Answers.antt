use Rattle.std.proofs.Common.{◌∙◌, ◌++◌, ap, map}
use Rattle.value_types.specs.Folds.{ty_of}
use Rattle.key_methods.specs.KeyBytes.{values_bytes}
use Rattle.key_columns.specs.Words.{key_tuple}
use Rattle.group_keys.proofs.Rows.{row-placed}
use Rattle.group_keys.proofs.texts.place_written.Goals as goal

pub loop-row-preserved : goal.loop-row-preserved
loop-row-preserved c =
    let step = row-placed (values_bytes (map ty_of c.args.types.now)) c.args.columns.now c.args.keys.now c.args.from c.loop-row.row _ c.loop-row.auto.row
    c.loop-row.invariant.placed c.loop-row.invariant.short (c.as_slice.ensures.value ∙ c.in_ok-write_row.ensures.bytes
    ∙ ap (λ l. l ++ values_bytes (map ty_of c.args.types.now) (key_tuple c.args.columns.now c.args.keys.now c.loop-row.row)) c.clear.ensures.items) c.in_ok-write_row.ensures.short c.in_ok-place_text.ensures.keys c.in_ok-place_text.ensures.place c.in_ok-push.ensures.items in
    record { placed = step.0; short = step.1 }
