-- Measures and loop invariants of chain_states::function_places::feed_each.
use Rattle.std.proofs.Common.{map, take}
use Rattle.agg_terms.specs.Chains.{Of}
use Rattle.value_types.specs.Folds.{leaf_of, ty_of}
use Rattle.chain_states.specs.proving.Places.{AreStates, FeedsAt, rows_from, with_condition, with_if}
use Rattle.chain_states.proofs.function_places.feed_each.Given as goal

abbrev pub invariant-loop-i : goal.invariant-loop-i
invariant-loop-i g l =
    AreStates (Of (leaf_of l.leaf)) (map ty_of l.types) l.states.items
    × FeedsAt (with_if l.conditions (Of (leaf_of l.leaf))) (map ty_of l.types) (take l.i l.places) (rows_from (with_condition (λ all. all.now) l.conditions (g.R.Rows.row_at l.rows)) l.from l.i) l.fn.states.items l.states.items
