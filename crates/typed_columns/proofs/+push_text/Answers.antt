use Rattle.std.proofs.Common.{arith, ap, sym, refl, subst}
use Rattle.value_types.specs.declared.ty.Ty.TheVariants as ty
use Rattle.typed_columns.specs.Growth.{Fits}
use Rattle.typed_columns.proofs.Growing.{filled_fits, only_texts, text_is_some}
use Rattle.typed_columns.proofs.Masks.{masked_push}
use Rattle.typed_columns.proofs.+push_text.Goals as goal
use Rattle.value_types.specs.declared.value.Value.TheVariants as form

pub growth_direct::push_text_to-returns-clause-ok : goal.growth_direct::push_text_to-returns-clause-ok
growth_direct::push_text_to-returns-clause-ok t c =
    rw (c.in_ok-push.ensures.items, c.in_ok-reserve.ensures.items, ap (λ v. v.values) c.in_ok-push_text.ensures.ok)
    (masked_push c.args.mask.now.items c.args.values.now.values (form.Bytes c.args.text.now) c.requires.alike)

pub growth_direct::push_text_to-push_text-requires : goal.growth_direct::push_text_to-push_text-requires
growth_direct::push_text_to-push_text-requires t c = (
  omega (arith, c.decreases),
  filled_fits (ty.Nullable c.args.values.now.ty) (form.Bytes c.args.text.now) c.args.values.now.ty refl (text_is_some c.args.text.now) c.requires.fits,
)

pub column::Column::push_text-unreachable-requires : goal.column::Column::push_text-unreachable-requires
column::Column::push_text-unreachable-requires t c =
    only_texts c.self.inside.kind c.args.text.now (subst (λ v. Fits v.ty (form.Bytes c.args.text.now)) (sym c.self.view_is) c.requires)
    c.in_default.not-Texts c.in_default.not-Nullable
