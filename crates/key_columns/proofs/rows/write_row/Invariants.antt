use Rattle.std.proofs.Common.{map, drop, ◌++◌}
use Rattle.value_types.specs.Folds.{ty_of, value_of}
use Rattle.key_methods.specs.KeyBytes.{values_bytes}
use Rattle.key_columns.specs.Words.{key_values}
use Rattle.key_columns.proofs.KeyRows.{RowWriting}
use Rattle.key_columns.proofs.rows.write_row.Given as goal

abbrev pub invariant-loop-i : goal.invariant-loop-i
invariant-loop-i l =
    let vs = key_values l.columns l.keys l.row in
    RowWriting (drop l.i l.types) (drop l.i vs) vs l.out.items (l.initial.out.items ++ values_bytes (map ty_of l.types) (map value_of vs))
