use Rattle.std.proofs.Common.{◌≡◌, map, take}
use Rattle.batch_reader.specs.Reading.{column_type}
use Rattle.batch_reader.proofs.schema_types.copy_types.Given as goal

abbrev pub invariant-loop-column : goal.invariant-loop-column
invariant-loop-column l = l.types.items ≡ map column_type (take l.column-index l.columns)
