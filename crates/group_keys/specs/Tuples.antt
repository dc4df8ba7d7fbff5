-- The tuples of a set's keys.
use Rattle.std.specs.Prelude.{◌≡◌, ℕ, List, [], get_or}
use Rattle.agg_terms.specs.Values.{Value}
use Rattle.value_types.specs.declared.ty.Ty.{Ty}
use Rattle.group_keys.specs.Sets.{Holds}
use Rattle.group_keys.specs.declared.key_set.KeySet.{KeySet}

-- these values are the tuple at a place
pub record IsTupleAt (types : List Ty) (s : KeySet) (place : ℕ) (values : List Value) : Type 0 where
  pub at : (ks : List (List Value)) → Holds types s ks → values ≡ get_or ks place []
