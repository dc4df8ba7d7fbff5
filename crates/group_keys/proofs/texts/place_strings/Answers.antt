use Rattle.group_keys.proofs.Rows.{string-placed}
use Rattle.group_keys.proofs.texts.place_strings.Goals as goal

pub loop-row-preserved : goal.loop-row-preserved
loop-row-preserved c =
    let step = string-placed c.args.columns.now c.args.keys.now c.args.from c.loop-row.row _ _ c.requires.one c.requires.keys c.index-columns-key.is c.item.ensures c.loop-row.auto.row
    c.loop-row.invariant.placed c.loop-row.invariant.short c.text_in-text.ensures.text c.text_in-text.ensures.short c.in_ok-place_text.ensures.keys c.in_ok-place_text.ensures.place c.in_ok-push.ensures.items in
    record { placed = step.0; short = step.1 }
