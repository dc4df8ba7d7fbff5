use Rattle.std.proofs.Common.{◌++◌, ◌∷◌, [], ◌∙◌, ap₂, get_or, sym}
use Rattle.std.proofs.lemmas.List.{map_more}
use Rattle.value_types.specs.declared.ty.Ty.TheVariants as rust
use Rattle.group_tables.proofs.grouping.types_at.Goals as goal

pub loop-i-preserved : goal.loop-i-preserved
loop-i-preserved c =
    c.in_ok-push.ensures.ok ∙ ap₂ (λ l t. l ++ t ∷ []) c.loop-i.invariant c.in_ok-type_at.ensures
    ∙ sym (map_more (λ k. get_or c.args.types.now k rust.Str) c.args.keys.now c.loop-i.i 0 c.loop-i-test.true)
