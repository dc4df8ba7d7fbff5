use Rattle.std.proofs.Common.{◌≡◌, drop}
use Rattle.std.specs.List.{list_all}
use Rattle.agg_terms.specs.Fitting.{fits_value}
use Rattle.value_types.specs.Folds.{ty_of, value_of}
use Rattle.agg_values.proofs.value_fits.+fits.Given as goal

-- what is left decides
abbrev pub invariant-all_fit-loop-i : goal.invariant-all_fit-loop-i
invariant-all_fit-loop-i l = list_all (λ v. fits_value (ty_of l.ty) (value_of v)) (drop l.i l.items) ≡ list_all (λ v. fits_value (ty_of l.ty) (value_of v)) l.items

abbrev pub invariant-all_entries_fit-loop-i : goal.invariant-all_entries_fit-loop-i
invariant-all_entries_fit-loop-i l = list_all (λ e. fits_value (ty_of l.ty) (value_of e.1)) (drop l.i l.pairs) ≡ list_all (λ e. fits_value (ty_of l.ty) (value_of e.1)) l.pairs
