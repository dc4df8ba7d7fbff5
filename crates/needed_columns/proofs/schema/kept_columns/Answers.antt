use Rattle.std.proofs.Common.{◌∙◌, sym, arith}
use Rattle.needed_columns.proofs.Kept.{kept_none, kept_take}
use Rattle.needed_columns.proofs.schema.kept_columns.Goals as goal

pub loop-i-init : goal.loop-i-init
loop-i-init c = c.new-few.ensures ∙ sym (kept_none c.args.marks.now)

pub loop-i-preserved : goal.loop-i-preserved
loop-i-preserved c =
    c.in_ok-keep_column.ensures
    ∙ kept_take c.args.marks.now c.args.columns.now c.loop-i.few c.loop-i.i c.index-columns-i.result c.requires (omega (arith, c.loop-i-test.true)) c.index-columns-i.is c.loop-i.invariant
