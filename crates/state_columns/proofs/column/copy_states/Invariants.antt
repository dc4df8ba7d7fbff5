use Rattle.std.proofs.Common.{◌≡◌, map, take}
use Rattle.agg_terms.specs.Lists.{Each}
use Rattle.chain_states.specs.Calls.{IsStateOf, tree_in}
use Rattle.state_columns.proofs.column.copy_states.Given as goal

abbrev pub invariant-loop-i : goal.invariant-loop-i
invariant-loop-i l = record { shape : Each (IsStateOf l.call) l.copied.items; trees : map tree_in l.copied.items ≡ take l.i (map tree_in l.states) }
