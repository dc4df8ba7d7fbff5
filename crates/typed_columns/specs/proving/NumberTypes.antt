-- Which types are types of numbers.
use Rattle.std.specs.Prelude.{Option, Some, None}
use Rattle.value_types.specs.declared.ty.Ty.{Ty}
use Rattle.value_types.specs.declared.ty.Ty.TheOpen.{Ty-F}
use Rattle.value_types.specs.declared.ty.Ty.TheFolds.{fold-Ty}
use Rattle.column_parts.specs.declared.number_type.NumberType.{NumberType}
use Rattle.column_parts.specs.declared.number_type.NumberType.TheVariants as number

-- one layer of a type
abbrev pub number_layer : Ty-F (Option NumberType) → Option NumberType
number_layer Ty-F.U8 = Some number.U8
number_layer Ty-F.U16 = Some number.U16
number_layer Ty-F.U32 = Some number.U32
number_layer Ty-F.U64 = Some number.U64
number_layer Ty-F.I8 = Some number.I8
number_layer Ty-F.I16 = Some number.I16
number_layer Ty-F.I32 = Some number.I32
number_layer Ty-F.I64 = Some number.I64
number_layer layer = None

-- of which numbers a type is, if of any
abbrev pub number_of : Ty → Option NumberType
number_of = fold-Ty (Option NumberType) number_layer
