-- Tuples of values of key columns, and their keys.
use Rattle.std.specs.Prelude.{◌≡◌, List, map}
use Rattle.agg_terms.specs.Values.{Value}
use Rattle.agg_meaning.specs.Feeds.{AreValues}
use Rattle.value_types.specs.Folds.{ty_of}
use Rattle.value_types.specs.declared.ty.Ty.{Ty}
use Rattle.key_methods.specs.declared.key.Key.{Key}
use Rattle.key_methods.specs.KeyBytes.{AreShort}
use Rattle.key_methods.specs.Keys.{key_of}

-- a tuple of values of key columns of these types
pub record IsTuple (types : List Ty) (vs : List Value) : Type 0 where
  pub fits : AreValues (map ty_of types) vs
  pub short : AreShort vs

-- its key
pub record IsKeyOf (types : List Ty) (vs : List Value) (key : Key) : Type 0 where
  pub tuple : IsTuple types vs
  pub key_is : key ≡ key_of (map ty_of types) vs

-- these are the values of each tuple that has this key
abbrev pub Undoes : List Ty → Key → List Value → Type 0
Undoes types key values = (vs : List Value) → IsKeyOf types vs key → values ≡ vs
