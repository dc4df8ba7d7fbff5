-- What the best row gives.
use Rattle.std.specs.Prelude.{Bool, cond, ℕ, List, Option, Some, None}
use Rattle.agg_terms.specs.Trees.{one_tree, pair_tree}
use Rattle.agg_terms.specs.Values.{Empty, Tree, Value}
use Rattle.agg_meaning.specs.Functions.{arg, higher, lower}

-- of two rows, whether the first has the greater, or the lower, argument at a place
abbrev pub beats_at : Bool → ℕ → List Value → List Value → Bool
beats_at greatest place a b = cond greatest (higher (arg place a) (arg place b)) (lower (arg place a) (arg place b))

-- the first argument of a row, or what stands for none
abbrev pub first_of : Value → Option (List Value) → Value
first_of nothing None = nothing
first_of nothing (Some row) = arg 0 row

-- the state of its first argument, and of its first two
abbrev pub one_of : Option (List Value) → Tree
one_of None = Empty
one_of (Some row) = one_tree (Some (arg 0 row))

abbrev pub pair_of : Option (List Value) → Tree
pair_of None = Empty
pair_of (Some row) = pair_tree (Some (arg 0 row, arg 1 row))
