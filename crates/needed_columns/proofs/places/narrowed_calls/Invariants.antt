use Rattle.std.proofs.Common.{◌≡◌, map, take}
use Rattle.agg_defs.specs.Plans.{call_in}
use Rattle.needed_columns.specs.Columns.{narrowed_call}
use Rattle.needed_columns.proofs.places.narrowed_calls.Given as goal

-- the calls so far
abbrev pub invariant-loop-call : goal.invariant-loop-call
invariant-loop-call l = map call_in l.narrow ≡ map (narrowed_call l.marks) (map call_in (take l.call-index l.calls))
