use Rattle.std.proofs.Common.{◌≡◌, map, take}
use Rattle.batch_reader.specs.Reading.{column_type}
use Rattle.query_run.proofs.answer.types_of.Given as goal

abbrev pub invariant-loop-column : goal.invariant-loop-column
invariant-loop-column l = l.types ≡ map column_type (take l.column-index l.columns)
