-- What a column is seen as.
use Rattle.std.specs.Prelude.{List}
use Rattle.value_types.specs.declared.ty.Ty.{Ty}
use Rattle.value_types.specs.declared.value.Value.{Value}

-- a type with a list of values
pub record TypedValues : Type 0 where
  pub ty : Ty
  pub values : List Value
