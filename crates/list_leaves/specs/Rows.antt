-- The arguments of a row, as the definitions have them.
use Rattle.agg_terms.specs.Values as family
use Rattle.value_types.specs.Folds.{value_of}
use Rattle.typed_columns.specs.Items.{item_value}
use Rattle.typed_columns.specs.declared.item.Item.{Item}

-- an argument
abbrev pub argument : Item → family.Value
argument i = value_of (item_value i)
