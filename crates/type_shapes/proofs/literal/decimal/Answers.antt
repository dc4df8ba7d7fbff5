use Rattle.std.proofs.Common.{arith, ap, ◌∙◌, length}
use Rattle.std.proofs.lemmas.List.{length-drop}
use Rattle.std.specs.Str.Parse.{digits_value_after}
use Rattle.type_shapes.proofs.Digits.{IsCut, cut, digits_joined, after_grows}
use Rattle.type_shapes.proofs.literal.decimal.Goals as goal

pub split_at-requires-2 : goal.split_at-requires-2
split_at-requires-2 c = let size = ap length c.split_at.ensures.back ∙ length-drop c.point_place.result c.args.text.now in omega (arith, size, c.point_place.ensures, c.requires.point)

pub with_digits-requires : goal.with_digits-requires
with_digits-requires c =
    let parts : IsCut c.args.text.now c.split_at.result.0.now c.split_at-2.result.1.now = cut _ _ _ _ _ c.point_place.ensures c.split_at.ensures.front c.split_at.ensures.back c.split_at-2.ensures.back in
    let joined = digits_joined _ _ _ parts in
    let more = after_grows (digits_value_after 10 0 c.split_at.result.0.now) c.split_at-2.result.1.now in
    omega (arith, joined, more, c.requires.value)

pub with_digits-units-requires : goal.with_digits-units-requires
with_digits-units-requires c =
    let parts : IsCut c.args.text.now c.split_at.result.0.now c.split_at-2.result.1.now = cut _ _ _ _ _ c.point_place.ensures c.split_at.ensures.front c.split_at.ensures.back c.split_at-2.ensures.back in
    let joined = ap (λ n. digits_value_after 10 n c.split_at-2.result.1.now) c.with_digits.ensures ∙ digits_joined _ _ _ parts in
    omega (arith, joined, c.requires.value)

pub overflow_cast-result : goal.overflow_cast-result
overflow_cast-result c =
    let parts : IsCut c.args.text.now c.split_at.result.0.now c.split_at-2.result.1.now = cut _ _ _ _ _ c.point_place.ensures c.split_at.ensures.front c.split_at.ensures.back c.split_at-2.ensures.back in
    let joined = c.with_digits-units.ensures ∙ ap (λ n. digits_value_after 10 n c.split_at-2.result.1.now) c.with_digits.ensures ∙ digits_joined _ _ _ parts in
    omega (arith, joined, c.requires.value)

pub returns : goal.returns
returns c =
    let parts : IsCut c.args.text.now c.split_at.result.0.now c.split_at-2.result.1.now = cut _ _ _ _ _ c.point_place.ensures c.split_at.ensures.front c.split_at.ensures.back c.split_at-2.ensures.back in
    (c.with_digits-units.ensures ∙ ap (λ n. digits_value_after 10 n c.split_at-2.result.1.now) c.with_digits.ensures ∙ digits_joined _ _ _ parts, ap length parts.after)
