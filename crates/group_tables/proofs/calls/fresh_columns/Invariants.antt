use Rattle.group_tables.proofs.CallColumns.{MadeSoFar}
use Rattle.group_tables.proofs.calls.fresh_columns.Given as goal

abbrev pub invariant-loop-i : goal.invariant-loop-i
invariant-loop-i l = MadeSoFar l.calls l.count l.columns.items l.i
