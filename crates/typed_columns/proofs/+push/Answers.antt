use Rattle.std.proofs.Common.{rules, length, arith, ap, sym, ◌∙◌, length-append, map, refl, subst}
use Rattle.std.proofs.lemmas.List.{length-map}
use Rattle.column_parts.proofs.Cuts.{cut_push, cuts_push}
use Rattle.typed_columns.proofs.Masks.{masked_push}
use Rattle.typed_columns.proofs.Growing.{entries_fit, filled_fits, keys_fit, list_fits, maps_push}
use Rattle.typed_columns.specs.Falls.{height-Arr, height-Map}
use Rattle.typed_columns.specs.Height.{height}
use Rattle.typed_columns.specs.Views.{view_of, IsFormed}
use Rattle.value_types.specs.declared.ty.Ty.TheVariants as ty
use Rattle.typed_columns.proofs.+push.Goals as goal

pub growth::push_list-returns-clause-cut : goal.growth::push_list-returns-clause-cut
growth::push_list-returns-clause-cut t c =
    rw (c.in_ok-push.ensures.items, c.in_ok-reserve.ensures.items)
    (cut_push c.args.starts.now.items (length c.args.elements.now.values) c.len.result _ c.requires.cut
    (omega (arith, c.len.ensures, ap (λ v. length v.values) c.in_ok-push_all.ensures.ok, length-append c.args.elements.now.values c.args.more.now)) (sym c.len.ensures))

pub growth::push_list-returns-clause-ok : goal.growth::push_list-returns-clause-ok
growth::push_list-returns-clause-ok t c =
    rw (c.in_ok-push.ensures.items, c.in_ok-reserve.ensures.items, ap (λ v. v.values) c.in_ok-push_all.ensures.ok)
    (cuts_push c.args.starts.now.items c.args.elements.now.values c.args.more.now c.len.result c.requires.cut
    (omega (arith, c.len.ensures, ap (λ v. length v.values) c.in_ok-push_all.ensures.ok, length-append c.args.elements.now.values c.args.more.now)))

pub growth::push_nullable-returns-clause-ok : goal.growth::push_nullable-returns-clause-ok
growth::push_nullable-returns-clause-ok t c =
    rw (c.in_ok-push-2.ensures.items, c.in_ok-reserve.ensures.items, ap (λ v. v.values) c.in_ok-push.ensures.ok)
    (masked_push c.args.mask.now.items c.args.values.now.values c.args.value.now c.requires.alike)

pub growth::push_nullable-push-requires : goal.growth::push_nullable-push-requires
growth::push_nullable-push-requires t c = (
  omega (arith, c.decreases),
  filled_fits (ty.Nullable c.args.values.now.ty) c.args.value.now c.args.values.now.ty refl (sym c.is_null.ensures.test ∙ c.if-is_null.false) c.requires.fits,
)

pub growth::push_map-returns-clause-cut : goal.growth::push_map-returns-clause-cut
growth::push_map-returns-clause-cut t c =
    rw (c.in_ok-push.ensures.items, c.in_ok-reserve.ensures.items)
    (cut_push c.args.starts.now.items (length c.args.keys.now.values) c.len.result _ c.requires.cut
    (omega (arith, c.len.ensures, ap (λ v. length v.values) c.in_ok-push_entries.ensures.keys, length-append c.args.keys.now.values (map (λ e. e.0) c.args.more.now)))
    (sym c.len.ensures))

pub growth::push_map-returns-clause-ok : goal.growth::push_map-returns-clause-ok
growth::push_map-returns-clause-ok t c =
    rw (c.in_ok-push.ensures.items, c.in_ok-reserve.ensures.items, ap (λ v. v.values) c.in_ok-push_entries.ensures.keys, ap (λ v. v.values) c.in_ok-push_entries.ensures.values)
    (maps_push c.args.starts.now.items c.args.keys.now.values c.args.values.now.values c.args.more.now c.len.result c.requires.cut c.requires.alike
    (omega (arith, c.len.ensures, ap (λ v. length v.values) c.in_ok-push_entries.ensures.keys, length-append c.args.keys.now.values (map (λ e. e.0) c.args.more.now), length-map c.args.more.now (λ e. e.0))))

pub column::Column::push-push_list-requires : goal.column::Column::push-push_list-requires
column::Column::push-push_list-requires t c =
    let here = ap (λ v. v.ty) (sym c.self.view_is) ∙ ap (λ k. (view_of k).ty) c.in-Lists.is in (
      omega (arith, c.decreases, ap (λ v. height v.ty) c.deref_mut-in-Lists.ensures.value, height-Arr c.in-Lists.elements.value.ty, ap height here),
      (
        rw c.deref_mut-in-Lists.ensures.value (list_fits c.args.self.now.ty c.args.value.now c.in-Lists.elements.value.ty _ here c.requires c.elements_in.ensures),
        search rules,
      ),
    )

pub column::Column::push-push_map-requires : goal.column::Column::push-push_map-requires
column::Column::push-push_map-requires t c =
    let here = ap (λ v. v.ty) (sym c.self.view_is) ∙ ap (λ k. (view_of k).ty) c.in-Maps.is in
    let formed = subst IsFormed c.in-Maps.is c.self.invariant in
    let key = c.in-Maps.keys.value.ty in
    let item = c.in-Maps.values.value.ty in (
      omega (arith, c.decreases, ap (λ v. height v.ty) c.deref_mut-in-Maps.ensures.value, ap (λ v. height v.ty) c.deref_mut-in-Maps-2.ensures.value, height-Map key item, ap height here),
      (
        rw c.deref_mut-in-Maps.ensures.value (keys_fit c.args.self.now.ty c.args.value.now key item _ here c.requires c.entries_in.ensures),
        (
          rw c.deref_mut-in-Maps-2.ensures.value (entries_fit c.args.self.now.ty c.args.value.now key item _ here c.requires c.entries_in.ensures),
          (
            rw c.deref_mut-in-Maps.ensures.value formed.0,
            rw (c.deref_mut-in-Maps.ensures.value, c.deref_mut-in-Maps-2.ensures.value) formed.1,
          ),
        ),
      ),
    )
