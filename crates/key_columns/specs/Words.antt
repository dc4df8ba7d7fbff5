-- The words of a column of numbers, and the key tuples of rows.
use Rattle.std.specs.Prelude.{◌≡◌, ◌<◌, ◌≤◌, ℕ, zero, suc, ◌+◌, List, [], ◌∷◌, ◌++◌, get_or, map}
use Rattle.std.specs.List.{slice_range}
use Rattle.agg_meaning.specs.Feeds.{AreValues}
use Rattle.agg_terms.specs.Values as family
use Rattle.typed_columns.specs.TypedValues.{TypedValues}
use Rattle.value_types.specs.Folds.{ty_of, value_of}
use Rattle.value_types.specs.declared.ty.Ty.{Ty}
use Rattle.value_types.specs.declared.ty.Ty.TheVariants as ty
use Rattle.value_types.specs.declared.value.Value.{Value}
use Rattle.value_types.specs.declared.value.Value.TheVariants as value
use Rattle.key_methods.specs.KeyBytes.{word_of}

-- the number that the bytes of each value spell, from a row on and below another
abbrev pub words_in : TypedValues → ℕ → ℕ → List ℕ
words_in column from to = map (λ v. word_of (ty_of column.ty) (value_of v)) (slice_range column.values from to)

-- the column of a number; one without values past the last
abbrev pub column_at : List TypedValues → ℕ → TypedValues
column_at columns k = get_or columns k (record { ty = ty.U8; values = [] })

-- a row's values in the key columns, and its key tuple
abbrev pub key_values : List TypedValues → List ℕ → ℕ → List Value
key_values columns keys row = map (λ k. get_or (column_at columns k).values row value.Nil) keys

abbrev pub key_tuple : List TypedValues → List ℕ → ℕ → List family.Value
key_tuple columns keys row = map value_of (key_values columns keys row)

-- the key tuples of n rows from a row on
abbrev pub key_tuples : List TypedValues → List ℕ → ℕ → ℕ → List (List family.Value)
key_tuples columns keys from zero = []
key_tuples columns keys from (suc n) = key_tuples columns keys from n ++ key_tuple columns keys (from + n) ∷ []

-- Key columns of these types among the columns of a batch: what stands in them, from a row on and below another, is of the types.
pub record AreKeyColumns (types : List Ty) (columns : List TypedValues) (keys : List ℕ) (from to : ℕ) : Type 0 where
  pub types_are : types ≡ map (λ k. (column_at columns k).ty) keys
  pub fit : (row : ℕ) → from ≤ row → row < to → AreValues (map ty_of types) (key_tuple columns keys row)
