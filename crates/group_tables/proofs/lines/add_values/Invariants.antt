use Rattle.std.proofs.Common.{map}
use Rattle.value_types.specs.Folds.{value_of}
use Rattle.group_tables.specs.proving.Lines.{AddsValues}
use Rattle.group_tables.proofs.lines.add_values.Given as goal

abbrev pub invariant-loop-i : goal.invariant-loop-i
invariant-loop-i l = AddsValues l.calls l.columns l.place l.i (map value_of l.initial.values) (map value_of l.values)
