-- Tuples and the types of their values.
use Rattle.std.proofs.Common.{◌≡◌, ◌≢◌, suc, Bool, true, false, List, [], ◌∷◌, length, map, ◌&&◌, refl, ap, sym, ◌∙◌}
use Rattle.std.proofs.lemmas.List.{length-map}
use Rattle.agg_terms.specs.Chains as terms
use Rattle.agg_terms.specs.Values as family
use Rattle.agg_terms.specs.Types.{bare}
use Rattle.agg_terms.specs.Fitting.{fits_plain, fits_row}
use Rattle.value_types.specs.declared.ty.Ty.{Ty}
use Rattle.value_types.specs.declared.value.Value.{Value}
use Rattle.value_types.specs.Folds.{value_of}
use Rattle.agg_values.specs.declared.links.Peels.{Peels}
use Rattle.agg_values.specs.Peels.{peeled_types}

other_length : (ts : List terms.Ty) (vs : List family.Value) → length ts ≢ length vs → false ≡ fits_row ts vs
other_length [] [] h = absurd (h refl)
other_length [] (v ∷ vs) h = refl
other_length (t ∷ ts) [] h = refl
other_length (t ∷ ts) (v ∷ vs) h = later (fits_plain (bare t) v) (other_length ts vs (λ e. h (ap suc e)))
  where
    later : (b : Bool) → false ≡ fits_row ts vs → false ≡ b && fits_row ts vs
    later true e = e
    later false e = refl

-- a tuple of another length than the types
pub row-longer : (peels : Peels) (types : List Ty) (row : List Value) → length types ≢ length row → false ≡ fits_row (peeled_types peels types) (map value_of row)
row-longer peels types row h =
    other_length (peeled_types peels types) (map value_of row) (λ e. h (sym (length-map types _) ∙ e ∙ length-map row value_of))
