-- The value that an item stands for.
use Rattle.std.specs.Prelude.{List}
use Rattle.std.specs.List.{slice_range, zip}
use Rattle.value_types.specs.declared.value.Value.{Value}
use Rattle.value_types.specs.declared.value.Value.TheVariants as value
use Rattle.typed_columns.specs.declared.item.Item.{Item}
use Rattle.typed_columns.specs.declared.item.Item.TheVariants as item
use Rattle.typed_columns.specs.declared.item.Span.{Span}
use Rattle.typed_columns.specs.declared.item.PairSpan.{PairSpan}

-- the elements of an array
abbrev pub span_values : Span → List Value
span_values span = slice_range span.column.now.values span.from span.to

-- the entries of a map, each key with its value
abbrev pub pair_span_values : PairSpan → List (Value × Value)
pair_span_values span = slice_range (zip span.keys.now.values span.values.now.values) span.from span.to

-- the value that stands there
abbrev pub item_value : Item → Value
item_value (item.Num n) = value.Num n
item_value (item.Bytes bytes) = value.Bytes bytes.now
item_value item.Nil = value.Nil
item_value (item.List elements) = value.List (span_values elements)
item_value (item.Pairs entries) = value.Pairs (pair_span_values entries)
item_value (item.Cell tree) = value.Cell tree.now
