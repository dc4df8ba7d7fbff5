use Rattle.std.proofs.Common.{◌≡◌, drop}
use Rattle.std.specs.List.{list_all}
use Rattle.agg_terms.specs.Fitting.{fits_plain}
use Rattle.value_types.specs.Folds.{entry_of, ty_of}
use Rattle.agg_values.proofs.trees.all_keys_fit.Given as goal

-- the keys that are left decide
abbrev pub invariant-loop-i : goal.invariant-loop-i
invariant-loop-i l = list_all (λ e. fits_plain (ty_of l.ty) (entry_of e).0) (drop l.i l.entries) ≡ list_all (λ e. fits_plain (ty_of l.ty) (entry_of e).0) l.entries
