-- Tuples of values, and lists of them that have the same different ones.
use Rattle.std.specs.Prelude.{◌≡◌, ℤ, ℕ, List, [], ◌∷◌, map}
use Rattle.std.specs.declared.cmp.Ordering.{Ordering}
use Rattle.agg_terms.specs.Values as family
use Rattle.agg_terms.specs.Values.{Bytes, Num, rows_of}
use Rattle.agg_terms.specs.Order.{compare_rows, different}
use Rattle.value_types.specs.declared.value.Value.{Value}
use Rattle.value_types.specs.Folds.{value_of}
use Rattle.typed_columns.specs.Items.{item_value}
use Rattle.typed_columns.specs.declared.item.Item.{Item}

-- an argument
abbrev pub argument : Item → family.Value
argument i = value_of (item_value i)

-- the tuple of one number, that of one string, and that of some values
abbrev pub number_tuple : ℤ → List family.Value
number_tuple n = Num n ∷ []

abbrev pub text_tuple : List ℕ → List family.Value
text_tuple bytes = Bytes bytes ∷ []

abbrev pub values_tuple : List Value → List family.Value
values_tuple vs = map value_of vs

-- how two tuples of values stand to one another
abbrev pub values_cmp : List Value → List Value → Ordering
values_cmp a b = compare_rows (values_tuple a) (values_tuple b)

-- two lists have the same different tuples
abbrev pub SameSet : List (List family.Value) → List (List family.Value) → Type 0
SameSet K L = different compare_rows K ≡ different compare_rows L

-- an entry of a map: its key and its value
abbrev pub pair_of : Value × Value → family.Value × family.Value
pair_of p = (value_of p.0, value_of p.1)
