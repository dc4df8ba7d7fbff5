-- Rows that are joined column by column.
use Rattle.std.specs.Prelude.{◌≡◌, ℕ, suc, ◌+◌, List, [], ◌∷◌, length, All}
use Rattle.value_types.specs.declared.ty.Ty.{Ty}
use Rattle.value_types.specs.declared.value.Value.{Value}
use Rattle.typed_columns.specs.TypedValues.{TypedValues}
use Rattle.typed_columns.specs.Growth.{trim, with_values}
use Rattle.columns.specs.Rows.{RowFits, column_at}
use Rattle.batch_reader.specs.declared.lane.Lane.{Lane}

-- lanes of which each row is one of the lane's types
abbrev pub AreFit : List Lane → Type 0
AreFit lanes = All (λ lane. All (RowFits lane.rows.types) lane.rows.rows) lanes

-- The first values of the column are as before. Where it has a value more for each of the rows, these are the rows' values at the place.
pub record JoinsColumn (place : ℕ) (rows : List (List Value)) (before after : TypedValues) : Type 0 where
  pub front : trim (length before.values) after ≡ before
  pub whole : length after.values ≡ length before.values + length rows → after ≡ with_values before (column_at place rows)

-- the values that rows have at each place from one on, as columns of these types
abbrev pub columns_from : ℕ → List Ty → List (List Value) → List TypedValues
columns_from place [] rows = []
columns_from place (ty ∷ types) rows = record { ty = ty; values = column_at place rows } ∷ columns_from (suc place) types rows

abbrev pub columns_of : List Ty → List (List Value) → List TypedValues
columns_of = columns_from 0
