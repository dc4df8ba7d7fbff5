use Rattle.std.proofs.Common.{◌∷◌, [], map}
use Rattle.value_types.specs.Folds.{tree_of}
use Rattle.group_tables.proofs.CallColumns.{ChangedSoFar, Joined}
use Rattle.group_tables.proofs.joining.join_trees.Given as goal

abbrev pub invariant-loop-i : goal.invariant-loop-i
invariant-loop-i l =
    ChangedSoFar l.calls (Joined l.count (l.place ∷ []) (map (λ t. tree_of t ∷ []) l.trees)) l.initial.states.items l.states.items l.i
