use Rattle.std.proofs.Common.{◌≡◌, take}
use Rattle.quick_rows.specs.Keeping.{kept}
use Rattle.batch_reader.proofs.keeping.kept_values.Given as goal

abbrev pub invariant-loop-i : goal.invariant-loop-i
invariant-loop-i l = l.values ≡ kept l.keep (take l.i l.row)
