-- The state of a function that a state behind a pointer is. One of groupArray keeps no type: it is one for each type of a result.
use Rattle.agg_terms.specs.Chains.{Ty}
use Rattle.agg_meaning.specs.States.{Held}
use Rattle.best_leaves.specs.States as best
use Rattle.event_leaves.specs.Funnels as funnel
use Rattle.event_leaves.specs.Matches as matches
use Rattle.list_leaves.specs.Arrays as array
use Rattle.list_leaves.specs.Quantiles as quantile
use Rattle.set_leaves.specs.Sets as set
use Rattle.boxed_leaves.specs.declared.state.BoxedState.{BoxedState}
use Rattle.boxed_leaves.specs.declared.state.BoxedState.TheVariants.{Array, Best, Funnel, Match, Quantile, Set}

abbrev pub held : Ty → BoxedState → Held
held t (Best s) = best.held s.value
held t (Array s) = array.held t s.value
held t (Quantile s) = quantile.held s.value
held t (Set s) = set.held s.value
held t (Funnel s) = funnel.held s.value
held t (Match s) = matches.held s.value
