use Rattle.std.proofs.Common.{◌≡◌, map, take}
use Rattle.agg_defs.specs.proving.Reached.{reached_types, part_of}
use Rattle.agg_defs.proofs.reached.within.Given as goal

abbrev pub invariant-loop-arg : goal.invariant-loop-arg
invariant-loop-arg l = reached_types l.all.items ≡ map (part_of l.passed) (reached_types (take l.arg-index l.args))
