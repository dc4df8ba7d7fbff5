-- What is kept of the best row, whether a later one beats it, and what it is as a tree and as a result.
use Rattle.std.specs.Prelude.{ℕ, Bool, true, cond, List, [], ◌∷◌, Option, Some, None}
use Rattle.std.specs.declared.cmp.Ordering.{Ordering}
use Rattle.std.specs.Ordering.{is_lt, is_gt}
use Rattle.agg_terms.specs.Order.{compare}
use Rattle.agg_terms.specs.Trees.{one_tree, pair_tree}
use Rattle.agg_terms.specs.Values.{Nil, Num, Tree, Tuple, Value, Word, values_list}
use Rattle.agg_meaning.specs.Functions.{arg}
use Rattle.value_types.specs.Folds.{value_of}
use Rattle.best_leaves.specs.declared.best.Best.{Best}
use Rattle.best_leaves.specs.declared.function.Function.{Function}
use Rattle.best_leaves.specs.declared.function.Function.TheVariants.{ArgMax, ArgMin, Max, Min}

-- the place of the argument that is compared
abbrev pub compared_place : Function → ℕ
compared_place Min = 0
compared_place Max = 0
compared_place ArgMin = 1
compared_place ArgMax = 1

-- what is kept beside it: the first argument of argMin and argMax, NULL of min and max
abbrev pub kept_beside : Function → List Value → Value
kept_beside Min r = Nil
kept_beside Max r = Nil
kept_beside ArgMin r = arg 0 r
kept_beside ArgMax r = arg 0 r

-- what is kept of a row: the second of the two is compared
abbrev pub kept_of : Function → List Value → Value × Value
kept_of f r = (kept_beside f r, arg (compared_place f) r)

abbrev pub pair_of : Best → Value × Value
pair_of b = (value_of b.beside, value_of b.compared)

abbrev pub pairs : Option Best → Option (Value × Value)
pairs None = None
pairs (Some b) = Some (pair_of b)

-- whether a value that stands so to another one beats it
abbrev pub wins : Function → Ordering → Bool
wins Min o = is_lt o
wins Max o = is_gt o
wins ArgMin o = is_lt o
wins ArgMax o = is_gt o

-- whether a value beats what is kept; where nothing is, each does
abbrev pub beats_kept : Function → Value → Option (Value × Value) → Bool
beats_kept f v None = true
beats_kept f v (Some p) = wins f (compare v p.1)

-- what is kept after one more, the later one only where it beats
abbrev pub with_later : Function → Option (Value × Value) → Value × Value → Option (Value × Value)
with_later f kept p = cond (beats_kept f p.1 kept) (Some p) kept

-- the compared values alone
abbrev pub compared_of : Option (Value × Value) → Option Value
compared_of None = None
compared_of (Some p) = Some p.1

-- the tree of what is kept
abbrev pub kept_tree : Function → Option (Value × Value) → Tree
kept_tree Min kept = one_tree (compared_of kept)
kept_tree Max kept = one_tree (compared_of kept)
kept_tree ArgMin kept = pair_tree kept
kept_tree ArgMax kept = pair_tree kept

-- the result, or what stands for none
abbrev pub kept_value : Function → Value → Option (Value × Value) → Value
kept_value f nothing None = nothing
kept_value Min nothing (Some p) = p.1
kept_value Max nothing (Some p) = p.1
kept_value ArgMin nothing (Some p) = p.0
kept_value ArgMax nothing (Some p) = p.0

-- what a tree of one value keeps, and what one of two
abbrev pub lone_kept : List Value → Option (Value × Value)
lone_kept (v ∷ []) = Some (Nil, v)
lone_kept _ = None

abbrev pub one_kept : Tree → Option (Value × Value)
one_kept (Word z) = Some (Nil, Num z)
one_kept (Tuple vs) = lone_kept (values_list vs)
one_kept _ = None

abbrev pub two_kept : List Value → Option (Value × Value)
two_kept (v ∷ w ∷ []) = Some (v, w)
two_kept _ = None

abbrev pub pair_kept : Tree → Option (Value × Value)
pair_kept (Tuple vs) = two_kept (values_list vs)
pair_kept _ = None

abbrev pub tree_kept : Function → Tree → Option (Value × Value)
tree_kept Min t = one_kept t
tree_kept Max t = one_kept t
tree_kept ArgMin t = pair_kept t
tree_kept ArgMax t = pair_kept t
