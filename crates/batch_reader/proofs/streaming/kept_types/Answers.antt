use Rattle.std.proofs.Common.{List, ◌++◌, ◌∷◌, [], ap, arith, false, get_or, sym, ◌∙◌}
use Rattle.value_types.specs.declared.ty.Ty.{Ty}
use Rattle.quick_rows.specs.Keeping.{kept}
use Rattle.batch_reader.proofs.Kept.{kept-none, kept-take}
use Rattle.batch_reader.proofs.streaming.kept_types.Goals as goal

pub loop-i-init : goal.loop-i-init
loop-i-init c = c.new-copied.ensures.items ∙ sym (kept-none c.args.keep.now)

pub loop-i-preserved : goal.loop-i-preserved
loop-i-preserved c =
    c.in_ok-keep_type.ensures
    ∙ ap (λ (xs : List Ty). xs ++ kept (get_or c.args.keep.now c.loop-i.i false ∷ []) (c.index-types-i.result ∷ [])) c.loop-i.invariant
    ∙ sym (kept-take c.args.keep.now c.args.types.now c.loop-i.i c.index-types-i.result c.requires (omega (arith, c.loop-i-test.true)) c.index-types-i.is)
