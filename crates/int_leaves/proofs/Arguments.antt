-- A row of items is the row of their values.
use Rattle.std.proofs.Common.{◌≡◌, List, map, ap, subst, sym, ◌∙◌}
use Rattle.std.proofs.lemmas.Simd.{map-map}
use Rattle.agg_meaning.specs.States.{TakesRow}
use Rattle.value_types.specs.Folds.{value_of}
use Rattle.value_types.specs.declared.value.Value.{Value}
use Rattle.typed_columns.specs.Items.{item_value}
use Rattle.typed_columns.specs.declared.item.Item.{Item}
use Rattle.int_leaves.specs.Parts.{Parts, held}
use Rattle.int_leaves.specs.Rows.{argument}

pub row_taken : (p q : Parts) (items : List Item) (r : List Value) → map item_value items ≡ r → TakesRow (held p) (map argument items) (held q) → TakesRow (held p) (map value_of r) (held q)
row_taken p q items r e h = subst (λ l. TakesRow (held p) l (held q)) (sym (map-map value_of item_value items) ∙ ap (map value_of) e) h
