-- The order of a set's keys.
use Rattle.std.specs.Prelude.{◌≡◌, ◌<◌, ℕ, List, [], All, get_or, length, map}
use Rattle.std.specs.List.{IsDistinct}
use Rattle.agg_terms.specs.Order.{compare_rows, different}
use Rattle.agg_terms.specs.Values.{Value}
use Rattle.value_types.specs.declared.ty.Ty.{Ty}
use Rattle.table_words.specs.Tables.{same_tuple}
use Rattle.group_keys.specs.Sets.{Holds}
use Rattle.group_keys.specs.declared.key_set.KeySet.{KeySet}

-- The places of a set's keys in the order of their tuples: the different tuples stand there ascending, NULL first.
pub record AreInOrder (types : List Ty) (s : KeySet) (places : List ℕ) : Type 0 where
  pub ascend : (ks : List (List Value)) → Holds types s ks → IsDistinct same_tuple ks → map (λ p. get_or ks p []) places ≡ different compare_rows ks
  pub within : (ks : List (List Value)) → Holds types s ks → All (λ p. p < length ks) places
