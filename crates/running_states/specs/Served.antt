-- The functions and argument types that have a state.
use Rattle.std.specs.Prelude.{Bool, ◌||◌, List}
use Rattle.agg_terms.specs.Chains.{Leaf, Ty}
use Rattle.boxed_leaves.specs.Served as boxed
use Rattle.int_leaves.specs.Served as int

abbrev pub is_served : Leaf → List Ty → Bool
is_served f us = int.is_served f us || boxed.is_served f us
