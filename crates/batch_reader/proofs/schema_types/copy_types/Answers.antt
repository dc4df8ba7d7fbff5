use Rattle.std.proofs.Common.{ap, arith, map, ◌∙◌}
use Rattle.std.proofs.lemmas.List.{take_all}
use Rattle.batch_reader.specs.Reading.{column_type}
use Rattle.batch_reader.proofs.schema_types.copy_types.Goals as goal

pub returns : goal.returns
returns c =
    c.loop-column.invariant ∙ ap (map column_type) (take_all c.loop-column.column-index c.args.columns.now (omega (arith, c.loop-column-test.false)))
