-- The functions and argument types whose states stand behind a pointer.
use Rattle.std.specs.Prelude.{Bool, ◌||◌, List}
use Rattle.agg_terms.specs.Chains.{Leaf, Ty}
use Rattle.best_leaves.specs.Served as best
use Rattle.event_leaves.specs.Served.{is_funnel_served, is_match_served}
use Rattle.list_leaves.specs.Served.{is_array_served, is_quantile_served}
use Rattle.set_leaves.specs.Served as set

abbrev pub is_served : Leaf → List Ty → Bool
is_served f ts =
    best.is_served f ts
    || (is_array_served f ts || (is_quantile_served f ts || (set.is_served f ts || (is_funnel_served f ts || is_match_served f ts))))
