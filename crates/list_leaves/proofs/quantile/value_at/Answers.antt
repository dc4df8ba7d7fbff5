use mir.Syntax.{w128}
use mir.Val.{of_z, to_z}
use Rattle.std.proofs.Common.{◌≡◌, ◌∙◌, ap, rules}
use Rattle.value_types.specs.Folds.{value_of}
use Rattle.value_types.specs.declared.value.Value.TheVariants.{Num}
use Rattle.list_leaves.proofs.Quantiles.{beyond, selected}
use Rattle.list_leaves.proofs.quantile.value_at.Goals as goal

pub returns-then-place-numbers : goal.returns-then-place-numbers
returns-then-place-numbers c = beyond c.args.numbers.now c.args.place c.if-place-numbers.true

pub returns : goal.returns
returns c =
    let e : to_z w128 (of_z w128 c.in_ok-number.number) ≡ c.in_ok-number.number = search rules in
    ap (λ z. value_of (Num z)) e ∙ selected c.args.numbers.now c.args.place c.in_ok-number.number c.if-place-numbers.false c.in_ok-number.ensures
