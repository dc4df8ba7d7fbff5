use Rattle.std.proofs.Common.{◌≡◌, map, take}
use Rattle.value_types.specs.Folds.{ty_of}
use Rattle.agg_defs.specs.proving.Reached.{reached_types}
use Rattle.agg_defs.proofs.results.copy_reached.Given as goal

abbrev pub invariant-loop-arg : goal.invariant-loop-arg
invariant-loop-arg l = map ty_of l.all ≡ reached_types (take l.arg-index l.args)
