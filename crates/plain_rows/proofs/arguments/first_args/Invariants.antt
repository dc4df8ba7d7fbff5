use Rattle.std.proofs.Common.{◌≡◌, map, take}
use Rattle.agg_meaning.specs.Functions.{the_arg}
use Rattle.value_types.specs.Folds.{value_of}
use Rattle.plain_rows.specs.Rows.{rows_of}
use Rattle.plain_rows.proofs.arguments.first_args.Given as goal

abbrev pub invariant-loop-row : goal.invariant-loop-row
invariant-loop-row l = map value_of l.values ≡ map the_arg (rows_of (take l.row-index l.rows))
