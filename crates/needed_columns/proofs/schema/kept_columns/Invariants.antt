use Rattle.std.proofs.Common.{◌≡◌, take}
use Rattle.quick_rows.specs.Keeping.{kept}
use Rattle.needed_columns.proofs.schema.kept_columns.Given as goal

-- what is kept of the columns so far
abbrev pub invariant-loop-i : goal.invariant-loop-i
invariant-loop-i l = l.few ≡ kept l.marks (take l.i l.columns)
