-- The state of a function that a state of the code is.
use Rattle.agg_meaning.specs.States.{Held}
use Rattle.best_leaves.specs.Best.{kept_tree, pairs}
use Rattle.best_leaves.specs.Made.{made_of}
use Rattle.best_leaves.specs.declared.state.BestState.{BestState}

abbrev pub held : BestState → Held
held s = record { made = made_of s.made; tree = kept_tree s.made.function (pairs s.best) }
