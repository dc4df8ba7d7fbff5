-- What a tuple of values feeds to a hash function: its numbers and its strings, in their order.
use Rattle.std.specs.Prelude.{[], ◌∷◌, ◌++◌}
use Rattle.std.specs.Hash as fed
use Rattle.std.specs.Hash.{HashWrites}
use Rattle.agg_terms.specs.Values.{Bytes, Cell, Entries, Items, Nil, Num, Pairs, Value, Values, a_value, an_entry, no_entries, no_values}

unfoldable mutual
  pub value_writes : Value → HashWrites
  value_writes (Num n) = fed.i128 n
  value_writes (Bytes b) = b ∷ []
  value_writes (Items vs) = all_writes vs
  value_writes (Pairs es) = entry_writes es
  value_writes Nil = []
  value_writes (Cell t) = []

  pub all_writes : Values → HashWrites
  all_writes no_values = []
  all_writes (a_value v vs) = value_writes v ++ all_writes vs

  pub entry_writes : Entries → HashWrites
  entry_writes no_entries = []
  entry_writes (an_entry k v es) = value_writes k ++ (value_writes v ++ entry_writes es)
