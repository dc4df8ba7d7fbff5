use Rattle.std.proofs.Common.{map, take}
use Rattle.agg_terms.specs.Lists.{Each}
use Rattle.chain_states.specs.Calls.{IsStateOf, tree_in}
use Rattle.state_columns.specs.Trees.{JoinAt}
use Rattle.state_columns.proofs.column.merge_states.Given as goal

abbrev pub invariant-loop-i : goal.invariant-loop-i
invariant-loop-i l =
    record {
      shape : Each (IsStateOf l.call) l.states.items;
      joined : JoinAt l.call (take l.i l.places) (take l.i (map tree_in l.later)) (map tree_in l.initial.states.items) (map tree_in l.states.items);
    }
