use Rattle.std.proofs.Common.{ℤ, refl, subst, sym}
use Rattle.column_parts.specs.NumberLists.{IsOf}
use Rattle.quick_rows.proofs.Walks.{number_passed}
use Rattle.quick_rows.proofs.walk.walk_any_number.Goals as goal

pub returns-then-is_sized : goal.returns-then-is_sized
returns-then-is_sized c =
    let found = c.in-Some.ensures in
    number_passed c.args.kind c.args.text.now found.0 c.in-Some.left.now found.1 found.2
    (subst (λ (z : ℤ). IsOf c.args.kind z) (sym found.3) (c.if-is_sized.ensures refl))
