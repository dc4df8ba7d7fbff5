-- Parts of values of the code, as the definitions see them, and lists that are read item by item.
use Rattle.std.specs.Prelude.{List, [], ◌∷◌, ◌++◌, map, Ok}
use Rattle.agg_terms.specs.Values as family
use Rattle.set_leaves.specs.Tuples.{values_tuple}
use Rattle.set_leaves.specs.declared.tuple.Tuple.{Tuple}
use Rattle.value_types.specs.declared.value.Value.{Value}
use Rattle.value_types.specs.Folds.{value_of}
use Rattle.state_codec.specs.Reading.{Read, ◌>>=◌}

-- an entry of a map
abbrev pub pair_view : Value × Value → family.Value × family.Value
pair_view e = (value_of e.0, value_of e.1)

-- the items before, the last first
abbrev pub behind : {X : Type 0} → List X → List X
behind [] = []
behind (x ∷ xs) = behind xs ++ x ∷ []

-- what was read before, and what is still read
abbrev pub with_front : {X : Type 0} → List X → Read (List X) → Read (List X)
with_front front read = read >>= λ x. Ok (front ++ x.0, x.1)

-- the keys of entries
abbrev pub keys_of : List (family.Value × family.Tree) → List family.Value
keys_of es = map (λ e. e.0) es

-- the tuples that a set keeps, in their order
abbrev pub kept_rows : List Tuple → List (List family.Value)
kept_rows ts = map (λ t. values_tuple t.values) ts
