-- A batch as a list of rows, out of columns of one length.
use Rattle.std.specs.Prelude.{◌≡◌, ℕ, zero, suc, List, [], ◌∷◌, ◌++◌, length, map, get_or, take}
use Rattle.value_types.specs.declared.ty.Ty.{Ty}
use Rattle.value_types.specs.declared.value.Value.{Value}
use Rattle.value_types.specs.declared.value.Value.TheVariants.{Nil}
use Rattle.typed_columns.specs.TypedValues.{TypedValues}
use Rattle.typed_columns.specs.Growth.{AllFit, Fits, with_value, with_values}

-- the types of a row's values, and the rows in their order
pub record Rows : Type 0 where
  pub types : List Ty
  pub rows : List (List Value)

-- no rows of these types
abbrev pub no_rows : List Ty → Rows
no_rows types = record { types = types; rows = [] }

-- with these rows, or this row, at the end
abbrev pub with_rows : Rows → List (List Value) → Rows
with_rows batch more = record { types = batch.types; rows = batch.rows ++ more }

abbrev pub with_row : Rows → List Value → Rows
with_row batch row = with_rows batch (row ∷ [])

-- the first rows alone
abbrev pub first_rows : ℕ → Rows → Rows
first_rows count batch = record { types = batch.types; rows = take count batch.rows }

-- the values at one place of each row
abbrev pub column_at : ℕ → List (List Value) → List Value
column_at place rows = map (λ row. get_or row place Nil) rows

-- a row with one value of each type
abbrev pub RowFits : List Ty → List Value → Type 0
RowFits [] [] = Unit {0}
RowFits [] (v ∷ vs) = ⊥
RowFits (t ∷ ts) [] = ⊥
RowFits (t ∷ ts) (v ∷ vs) = Fits t v × RowFits ts vs

-- columns of this length
abbrev pub AreLong : List TypedValues → ℕ → Type 0
AreLong [] n = Unit {0}
AreLong (c ∷ cs) n = (length c.values ≡ n) × AreLong cs n

-- columns whose values are of their types
abbrev pub AreTyped : List TypedValues → Type 0
AreTyped [] = Unit {0}
AreTyped (c ∷ cs) = AllFit c.ty c.values × AreTyped cs

-- what the columns have at a place, and at each place below n
abbrev pub row_at : List TypedValues → ℕ → List Value
row_at columns place = map (λ c. get_or c.values place Nil) columns

abbrev pub rows_upto : List TypedValues → ℕ → List (List Value)
rows_upto columns zero = []
rows_upto columns (suc n) = rows_upto columns n ++ row_at columns n ∷ []

-- the rows of columns of that length
abbrev pub rows_of : List TypedValues → ℕ → Rows
rows_of columns count = record { types = map (λ c. c.ty) columns; rows = rows_upto columns count }

-- each column with one value of the row more, as far as the row goes
abbrev pub pushed : List TypedValues → List Value → List TypedValues
pushed [] row = []
pushed (c ∷ cs) [] = c ∷ cs
pushed (c ∷ cs) (v ∷ vs) = with_value c v ∷ pushed cs vs

-- each column with the values of the second one at its place more, as far as there is one
abbrev pub joined : List TypedValues → List TypedValues → List TypedValues
joined [] more = []
joined (c ∷ cs) [] = c ∷ cs
joined (c ∷ cs) (d ∷ ds) = with_values c d.values ∷ joined cs ds
