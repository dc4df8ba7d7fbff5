-- The rows of columns.
use Rattle.std.specs.Prelude.{ℕ, zero, suc, ◌+◌, List, [], ◌∷◌, ◌++◌}
use Rattle.columns.specs.Rows.{row_at}
use Rattle.typed_columns.specs.TypedValues.{TypedValues}
use Rattle.value_types.specs.declared.value.Value.{Value}

-- n rows from a row on
abbrev pub rows_between : List TypedValues → ℕ → ℕ → List (List Value)
rows_between columns from zero = []
rows_between columns from (suc n) = rows_between columns from n ++ row_at columns (from + n) ∷ []
