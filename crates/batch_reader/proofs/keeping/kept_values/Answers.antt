use Rattle.std.proofs.Common.{List, ◌++◌, ◌∷◌, [], ap, arith, false, get_or, sym, ◌∙◌}
use Rattle.value_types.specs.declared.value.Value.{Value}
use Rattle.quick_rows.specs.Keeping.{kept}
use Rattle.batch_reader.proofs.Kept.{kept-none, kept-take}
use Rattle.batch_reader.proofs.keeping.kept_values.Goals as goal

pub loop-i-init : goal.loop-i-init
loop-i-init c = c.new-values.ensures ∙ sym (kept-none c.args.keep.now)

pub loop-i-preserved : goal.loop-i-preserved
loop-i-preserved c =
    c.in_ok-keep_value.ensures
    ∙ ap (λ (xs : List Value). xs ++ kept (get_or c.args.keep.now c.loop-i.i false ∷ []) (c.index-row-i.result ∷ [])) c.loop-i.invariant
    ∙ sym (kept-take c.args.keep.now c.args.row.now c.loop-i.i c.index-row-i.result c.requires (omega (arith, c.loop-i-test.true)) c.index-row-i.is)
