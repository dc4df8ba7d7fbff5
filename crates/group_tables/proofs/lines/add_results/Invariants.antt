use Rattle.std.proofs.Common.{◌≡◌, ◌++◌, map, take}
use Rattle.value_types.specs.Folds.{ty_of}
use Rattle.group_tables.specs.proving.Lines.{result_of}
use Rattle.group_tables.proofs.lines.add_results.Given as goal

abbrev pub invariant-loop-i : goal.invariant-loop-i
invariant-loop-i l = map ty_of l.types ≡ map ty_of l.initial.types ++ map result_of (take l.i l.calls)
