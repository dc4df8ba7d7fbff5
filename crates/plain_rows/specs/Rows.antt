-- Rows of values in the definitions, and the arguments of a row.
use Rattle.std.specs.Prelude.{ℤ, List, map}
use Rattle.agg_terms.specs.Values as family
use Rattle.agg_meaning.specs.Functions.{arg, number}
use Rattle.value_types.specs.declared.value.Value.{Value}
use Rattle.value_types.specs.Folds.{value_of}

-- a row, and a list of rows
abbrev pub row_of : List Value → List family.Value
row_of row = map value_of row

abbrev pub rows_of : List (List Value) → List (List family.Value)
rows_of rows = map (map value_of) rows

-- the number of a row's first argument
abbrev pub first_number : List family.Value → ℤ
first_number row = number (arg 0 row)
