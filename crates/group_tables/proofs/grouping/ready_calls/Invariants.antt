use Rattle.std.proofs.Common.{◌≡◌, map, take}
use Rattle.agg_defs.specs.Plans.{call_in}
use Rattle.group_tables.specs.Calls.{call_of}
use Rattle.group_tables.proofs.grouping.ready_calls.Given as goal

abbrev pub invariant-loop-i : goal.invariant-loop-i
invariant-loop-i l = map call_of l.ready ≡ map call_in (take l.i l.calls)
