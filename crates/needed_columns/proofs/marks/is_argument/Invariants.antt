use Rattle.std.proofs.Common.{◌≡◌, drop, map}
use Rattle.std.specs.List.{list_any}
use Rattle.agg_defs.specs.Plans.{call_in}
use Rattle.needed_columns.specs.Columns.{is_argument}
use Rattle.needed_columns.proofs.marks.is_argument.Given as goal

-- the calls that are left decide
abbrev pub invariant-loop-call : goal.invariant-loop-call
invariant-loop-call l = list_any (is_argument l.column) (map call_in (drop l.call-index l.calls)) ≡ list_any (is_argument l.column) (map call_in l.calls)
