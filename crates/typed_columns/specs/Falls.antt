-- Each part of a column is of a smaller type.
use Rattle.std.specs.Prelude.{◌≡◌, ℕ, ◌≤◌, ◌+◌, max}
use Rattle.std.proofs.Common.{arith, ap, sym, ◌∙◌}
use Rattle.value_types.specs.declared.ty.Ty.{Ty}
use Rattle.value_types.specs.declared.ty.Ty.TheVariants as ty
use Rattle.value_types.specs.declared.ty.Ty.TheOpen.{Ty-F}
use Rattle.value_types.specs.declared.ty.Ty.TheFolds.{fold-roll-Ty}
use Rattle.typed_columns.specs.declared.column.Kind.{Kind}
use Rattle.typed_columns.specs.declared.column.Kind.TheVariants as kind
use Rattle.typed_columns.specs.declared.column.Column.TheInside.{Inside}
use Rattle.typed_columns.specs.declared.column.Column.TheDeep.{deep-Column, deep-Kind}
use Rattle.typed_columns.specs.Height.{height, height_step}
use Rattle.typed_columns.specs.Views.{view_of, IsFormed, size_of}

pub height-Arr : (item : Ty) → height (ty.Arr item) ≡ height item + 1
height-Arr item = ap height (sym (ty.rolls-Arr item)) ∙ fold-roll-Ty ℕ height_step (Ty-F.Arr item)

pub height-Map : (key item : Ty) → height (ty.Map key item) ≡ max (height key) (height item) + 1
height-Map key item = ap height (sym (ty.rolls-Map key item)) ∙ fold-roll-Ty ℕ height_step (Ty-F.Map key item)

pub height-Nullable : (of : Ty) → height (ty.Nullable of) ≡ height of + 1
height-Nullable of = ap height (sym (ty.rolls-Nullable of)) ∙ fold-roll-Ty ℕ height_step (Ty-F.Nullable of)

kind_falls : (k : Kind) → deep-Kind k ≤ size_of (view_of k)
kind_falls (kind.Lists starts elements) = omega (arith, height-Arr elements.value.ty)
kind_falls (kind.Maps starts keys values) = omega (arith, height-Map keys.value.ty values.value.ty)
kind_falls (kind.Nullable mask values) = omega (arith, height-Nullable values.value.ty)
kind_falls k = omega arith

pub size_falls : (a : Inside) → IsFormed a.kind → deep-Column a ≤ size_of (view_of a.kind)
size_falls a formed = omega (arith, kind_falls a.kind)
