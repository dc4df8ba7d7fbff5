use Rattle.std.proofs.Common.{◌≡◌, map, take}
use Rattle.typed_columns.specs.Growth.{no_values}
use Rattle.columns.proofs.batch.Batch.new.Given as goal

abbrev pub invariant-loop-ty : goal.invariant-loop-ty
invariant-loop-ty l = l.columns.items ≡ map no_values (take l.ty-index l.types)
