use Rattle.std.proofs.Common.{subst, sym}
use Rattle.value_types.specs.declared.ty.Ty.TheVariants as ty
use Rattle.quick_rows.specs.proving.Walking.{WalksFirst, element_ty}
use Rattle.quick_rows.proofs.Walks.{number_filled}
use Rattle.quick_rows.proofs.walk.walk_filled.Goals as goal

pub returns-in-Some : goal.returns-in-Some
returns-in-Some c =
    subst (λ o. WalksFirst (ty.Nullable (element_ty o)) c.args.text.now c.walk_number.result) (sym c.in-Some.is)
    (number_filled c.in-Some.kind c.args.text.now c.walk_number.result c.walk_number.ensures)
