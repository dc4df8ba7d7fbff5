use Rattle.std.proofs.Common.{◌≡◌, map, replicate}
use Rattle.value_types.specs.Folds.{tree_of}
use Rattle.plain_rows.proofs.defaults.copies.Given as goal

abbrev pub invariant-loop-copied : goal.invariant-loop-copied
invariant-loop-copied l = map tree_of l.all ≡ replicate l.copied (tree_of l.tree)
