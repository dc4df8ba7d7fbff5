use Rattle.std.proofs.Common.{◌≡◌, drop, map}
use Rattle.std.specs.List.{list_all}
use Rattle.agg_terms.specs.Fitting.{fits_row}
use Rattle.agg_values.specs.Peels.{peeled_types}
use Rattle.value_types.specs.Folds.{value_of}
use Rattle.agg_values.proofs.row_fits.rows_fit.Given as goal

-- the tuples that are left decide
abbrev pub invariant-loop-i : goal.invariant-loop-i
invariant-loop-i l =
    list_all (λ row. fits_row (peeled_types l.peels l.types) (map value_of row)) (drop l.i l.rows)
    ≡ list_all (λ row. fits_row (peeled_types l.peels l.types) (map value_of row)) l.rows
