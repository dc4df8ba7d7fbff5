-- What a column of each kind is seen as, by what its parts are seen as, and when it is well formed.
use Rattle.std.specs.Prelude.{◌≡◌, ℕ, length, map}
use Rattle.std.specs.List.{zip}
use Rattle.value_types.specs.declared.ty.Ty.{Ty}
use Rattle.value_types.specs.declared.ty.Ty.TheVariants as ty
use Rattle.value_types.specs.declared.value.Value.TheVariants as value
use Rattle.column_parts.specs.declared.number_type.NumberType.{NumberType}
use Rattle.column_parts.specs.declared.number_type.NumberType.TheVariants as number
use Rattle.column_parts.specs.Cuts.{cuts, IsCut}
use Rattle.typed_columns.specs.declared.column.Kind.{Kind}
use Rattle.typed_columns.specs.declared.column.Kind.TheVariants as kind
use Rattle.typed_columns.specs.TypedValues.{TypedValues}
use Rattle.typed_columns.specs.Height.{height}
use Rattle.typed_columns.specs.Masks.{masked}

-- the type of a column of numbers
abbrev pub number_ty : NumberType → Ty
number_ty number.U8 = ty.U8
number_ty number.U16 = ty.U16
number_ty number.U32 = ty.U32
number_ty number.U64 = ty.U64
number_ty number.I8 = ty.I8
number_ty number.I16 = ty.I16
number_ty number.I32 = ty.I32
number_ty number.I64 = ty.I64

-- the type with its values; a part is a column in turn, and stands here as its own type and values
abbrev pub view_of : Kind → TypedValues
view_of (kind.Numbers numbers) = record { ty = number_ty numbers.kind; values = map value.Num numbers.numbers }
view_of (kind.Texts texts) = record { ty = ty.Str; values = map value.Bytes texts }
view_of (kind.Nullable mask values) = record { ty = ty.Nullable values.value.ty; values = masked mask.items values.value.values }
view_of (kind.Lists starts elements) = record { ty = ty.Arr elements.value.ty; values = map value.List (cuts starts.items elements.value.values) }
view_of (kind.Maps starts keys values) = record {
  ty = ty.Map keys.value.ty values.value.ty;
  values = map value.Pairs (cuts starts.items (zip keys.value.values values.value.values));
}
view_of (kind.Cells chain args trees) = record { ty = ty.State chain args; values = map value.Cell trees.items }

-- a mark for each value; arrays that cut the elements, maps that cut the keys; a value for each key
abbrev pub IsFormed : Kind → Type 0
IsFormed (kind.Numbers numbers) = Unit {0}
IsFormed (kind.Texts texts) = Unit {0}
IsFormed (kind.Nullable mask values) = length mask.items ≡ length values.value.values
IsFormed (kind.Lists starts elements) = IsCut starts.items (length elements.value.values)
IsFormed (kind.Maps starts keys values) = IsCut starts.items (length keys.value.values) × (length keys.value.values ≡ length values.value.values)
IsFormed (kind.Cells chain args trees) = Unit {0}

-- by what the parts of a column are smaller than it
abbrev pub size_of : TypedValues → ℕ
size_of column = height column.ty
