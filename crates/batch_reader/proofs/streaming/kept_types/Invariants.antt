use Rattle.std.proofs.Common.{◌≡◌, take}
use Rattle.quick_rows.specs.Keeping.{kept}
use Rattle.batch_reader.proofs.streaming.kept_types.Given as goal

abbrev pub invariant-loop-i : goal.invariant-loop-i
invariant-loop-i l = l.copied.items ≡ kept l.keep (take l.i l.types)
