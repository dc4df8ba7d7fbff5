use Rattle.std.proofs.Common.{◌≡◌, map, take}
use Rattle.value_types.specs.Folds.{ty_of}
use Rattle.agg_defs.specs.proving.Reached.{reached_types}
use Rattle.agg_defs.proofs.reached.all_reached.Given as goal

abbrev pub invariant-loop-ty : goal.invariant-loop-ty
invariant-loop-ty l = reached_types l.all.items ≡ map ty_of (take l.ty-index l.types)
