use Rattle.std.proofs.Common.{◌≡◌, take}
use Rattle.list_leaves.specs.Kept.{kept_values}
use Rattle.list_leaves.proofs.kept.Kept.from_values.Given as goal

-- the values so far
abbrev pub invariant-loop-value : goal.invariant-loop-value
invariant-loop-value l = kept_values l.kept ≡ take l.value-index l.values
