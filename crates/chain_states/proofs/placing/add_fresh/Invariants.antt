-- Measures and loop invariants of chain_states::placing::add_fresh.
use Rattle.agg_terms.specs.Lists.{Each}
use Rattle.chain_states.specs.Calls.{AddsFresh, IsStateOf}
use Rattle.chain_states.proofs.placing.add_fresh.Given as goal

abbrev pub invariant-loop-i : goal.invariant-loop-i
invariant-loop-i l = Each (IsStateOf l.call) l.states.items × AddsFresh l.call l._i l.fn.states.items l.states.items
