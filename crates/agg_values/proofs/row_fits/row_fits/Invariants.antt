use Rattle.std.proofs.Common.{◌≡◌, drop, length, map}
use Rattle.agg_terms.specs.Fitting.{fits_row}
use Rattle.agg_values.specs.Peels.{peeled_types}
use Rattle.value_types.specs.Folds.{value_of}
use Rattle.agg_values.proofs.row_fits.row_fits.Given as goal

-- the types and values that are left decide
abbrev pub invariant-loop-i : goal.invariant-loop-i
invariant-loop-i l =
    (fits_row (peeled_types l.peels (drop l.i l.types)) (map value_of (drop l.i l.row)) ≡ fits_row (peeled_types l.peels l.types) (map value_of l.row))
    × (length l.types ≡ length l.row)
