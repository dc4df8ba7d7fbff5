use Rattle.std.proofs.Common.{◌-◌, ap, arith, drop, length, sym, take, ◌∙◌, ◌∷◌, [], subst, refl}
use Rattle.value_types.specs.declared.value.Value.TheVariants.{Nil}
use Rattle.typed_columns.specs.Growth.{Fits}
use Rattle.typed_columns.specs.Views.{view_of}
use Rattle.quick_rows.specs.Taking.{Says}
use Rattle.quick_rows.proofs.FieldLaws.{null_fits, null_says}
use Rattle.quick_rows.proofs.Fronts.{front_two, null_front}
use Rattle.quick_rows.proofs.field.take_null.Goals as goal

pub push_null-requires : goal.push_null-requires
push_null-requires c =
    let here = ap (λ v. v.ty) (sym c.column.view_is) ∙ ap (λ k. (view_of k).ty) c.in-Nullable.is in
    subst (λ t. Fits t Nil) (sym here) (null_fits c.in-Nullable.field-1.value.ty)

pub returns-in-Nullable : goal.returns-in-Nullable
returns-in-Nullable c =
    let text = c.args.text.now in
    let of = c.in-Nullable.field-1.value.ty in
    let here = ap (λ v. v.ty) (sym c.column.view_is) ∙ ap (λ k. (view_of k).ty) c.in-Nullable.is in (
      92 ∷ 78 ∷ [],
      null_front text (take (length text - 2) (drop 2 text)) (front_two text 92 78 (omega arith) (omega arith) (omega arith)),
      (Nil, subst (λ t. Fits t Nil) (sym here) (null_fits of), subst (λ t. Says t (92 ∷ 78 ∷ []) Nil) (sym here) (null_says of (92 ∷ 78 ∷ []) refl), c.in_ok-push_null.ensures.ok),
    )
