use Rattle.std.proofs.Common.{[], ◌∷◌, length}
use Rattle.type_names.specs.declared.goal.Goal.TheVariants.{AnyType}
use Rattle.line_forms.specs.Tables.{column_signs, ColumnFits}
use Rattle.request_lines.specs.proving.Judging.{a_name, in_type, columns}
use Rattle.request_lines.specs.proving.Reads.{IsColumnRead}
use Rattle.request_lines.proofs.ListsRead.{SoFar}
use Rattle.request_lines.proofs.columns.read_columns.Given as goal

abbrev pub invariant-loop-behind : goal.invariant-loop-behind
invariant-loop-behind l = SoFar ColumnFits IsColumnRead column_signs (a_name ∷ in_type AnyType ∷ []) columns l.rest l.left l.columns

abbrev pub decreases-loop-behind : goal.decreases-loop-behind
decreases-loop-behind l = length l.left.text.now
