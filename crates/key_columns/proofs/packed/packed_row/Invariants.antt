use Rattle.std.proofs.Common.{map, drop}
use Rattle.value_types.specs.Folds.{ty_of, value_of}
use Rattle.key_methods.specs.KeyBytes.{values_bytes}
use Rattle.key_methods.specs.Kinds.{total_width}
use Rattle.key_methods.proofs.SideBySide.{Packing}
use Rattle.key_columns.specs.Words.{key_values}
use Rattle.key_columns.proofs.packed.packed_row.Given as goal

abbrev pub invariant-loop-i : goal.invariant-loop-i
invariant-loop-i l =
    let vs = key_values l.columns l.keys l.row in
    Packing (map ty_of (drop l.i l.types)) (map value_of (drop l.i vs)) l.packed.word l.packed.width (total_width (map ty_of l.types)) (values_bytes (map ty_of l.types) (map value_of vs))
