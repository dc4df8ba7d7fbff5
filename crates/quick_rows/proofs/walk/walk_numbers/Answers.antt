use Rattle.std.proofs.Common.{◌≡◌, ◌-◌, ℤ, drop, length, refl, sym, ◌∙◌, subst, take, to_z, of_z, rules, arith}
use Rattle.std.specs.Int.{w128}
use Rattle.column_parts.specs.NumberLists.{IsOf}
use Rattle.quick_rows.proofs.Fronts.{front_one}
use Rattle.quick_rows.proofs.Walks.{numbers_all, numbers_more, numbers_none}
use Rattle.quick_rows.proofs.walk.walk_numbers.Goals as goal

pub loop-number-init : goal.loop-number-init
loop-number-init c = numbers_none c.args.kind c.args.inside.now

pub loop-number-preserved : goal.loop-number-preserved
loop-number-preserved c =
    let behind = c.in-Some.behind.now in
    let found = c.in-Some.ensures in
    let whole : to_z w128 (of_z w128 c.in-Some.number) ≡ c.in-Some.number = search rules in
    let fits = subst (λ (z : ℤ). IsOf c.args.kind z) (whole ∙ sym found.3) (c.if-not-is_of.ensures refl) in
    numbers_more c.args.kind c.args.inside.now c.loop-number.left.now found.0 behind (take (length behind - 1) (drop 1 behind)) c.loop-number.invariant found.1 found.2 fits
    (front_one behind 44 (omega arith) (omega arith))

pub returns-in-93 : goal.returns-in-93
returns-in-93 c =
    let behind = c.in-Some.behind.now in
    let found = c.in-Some.ensures in
    let whole : to_z w128 (of_z w128 c.in-Some.number) ≡ c.in-Some.number = search rules in
    let fits = subst (λ (z : ℤ). IsOf c.args.kind z) (whole ∙ sym found.3) (c.if-not-is_of.ensures refl) in
    numbers_all c.args.kind c.args.inside.now c.loop-number.left.now found.0 behind (take (length behind - 1) (drop 1 behind)) c.loop-number.invariant found.1 found.2 fits
    (front_one behind 93 (omega arith) (omega arith))
