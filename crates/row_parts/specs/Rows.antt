-- Rows of items as the definitions have them.
use Rattle.std.specs.Prelude.{ℕ, Bool, false, not, nat_eq, Option, None, Some, List, [], ◌∷◌, map}
use Rattle.agg_terms.specs.Values.{Value}
use Rattle.int_leaves.specs.Rows.{argument}
use Rattle.value_types.specs.Folds.{value_of}
use Rattle.value_types.specs.declared.value.Value.{Value as Valued}
use Rattle.typed_columns.specs.declared.item.Item.{Item}

-- the arguments of a row
abbrev pub arguments : List Item → List Value
arguments row = map argument row

-- a condition that is met
abbrev pub is_met : Option ℕ → Bool
is_met None = false
is_met (Some n) = not (nat_eq n 0)

-- an entry of a map, and the elements of an array each as a row
abbrev pub pair_value : Valued × Valued → Value × Value
pair_value e = (value_of e.0, value_of e.1)

abbrev pub element_rows : List Valued → List (List Value)
element_rows vs = map (λ v. value_of v ∷ []) vs

-- the entries of a map, each key with the row of its value
abbrev pub pair_rows : List (Value × Value) → List (Value × List Value)
pair_rows es = map (λ e. (e.0, e.1 ∷ [])) es
