use Rattle.std.proofs.Common.{ap, ◌∙◌, subst, false, ◌++◌, ◌∷◌, []}
use Rattle.std.specs.Prelude.{Ok}
use Rattle.quick_rows.specs.Taking.{TakesFilled, TakesFirst}
use Rattle.quick_rows.proofs.FirstLaws.{some_first}
use Rattle.quick_rows.proofs.field.take_some.Goals as goal

pub returns-in_ok-push-in-Ok-Taken-clause-taken : goal.returns-in_ok-push-in-Ok-Taken-clause-taken
returns-in_ok-push-in-Ok-Taken-clause-taken c =
    some_first c.args.mask.now.items c.push.new.self.items c.args.values.now c.take_value.new.values c.args.text.now c.in-Ok-Taken.left.now c.requires.alike
    (c.in_ok-push-in-Ok-Taken.ensures.items ∙ ap (λ xs. xs ++ false ∷ []) c.in_ok-reserve.ensures.items)
    (subst (λ f. TakesFirst TakesFilled c.args.values.now c.args.text.now c.take_value.new.values (Ok f)) c.in-Ok-Taken.field-0-is c.in-Ok-Taken.ensures)
