-- Which kinds have keys of at most 8 bytes.
use Rattle.std.proofs.Common.{◌≡◌, ◌≤◌, ◌&&◌, Bool, true, false, nat_le, List, [], ◌∷◌, map, refl, sym, ap, ◌∙◌, arith}
use Rattle.std.specs.Prelude.{if◌then◌else◌}
use Rattle.std.proofs.lemmas.List.Sums.{sum_by-cons}
use Rattle.agg_terms.specs.Chains as terms
use Rattle.agg_terms.specs.Lists.{Each}
use Rattle.value_types.specs.Folds.{ty_of}
use Rattle.value_types.specs.declared.ty.Ty.{Ty}
use Rattle.key_methods.specs.declared.kind.KeyKind.{KeyKind}
use Rattle.key_methods.specs.declared.kind.KeyKind.TheVariants.{NoKey, Key8, Key16, Key32, Key64, Packed128, Serialized}
use Rattle.key_methods.specs.Kinds.{AreKeyTypes, fit_in, is_plain_number, kind_of, total_width, width_of}
use Rattle.key_methods.proofs.Columns.{IsColumn, are_columns}

abbrev is_small : KeyKind → Bool
is_small NoKey = true
is_small Key8 = true
is_small Key16 = true
is_small Key32 = true
is_small Key64 = true
is_small _ = false

one_fits : (t : terms.Ty) → is_plain_number t ≡ true → width_of t ≤ 8 → fit_in 8 (t ∷ []) ≡ true
one_fits t plain h = ap (λ b. (b && true) && nat_le (total_width (t ∷ [])) 8) plain ∙ grind (arith, sum_by-cons width_of t [])

not_small : (b : Bool) → is_small (if b then Packed128 else Serialized) ≡ true → ⊥
not_small true h = absurd cc
not_small false h = absurd cc

fits_8 : (ts : List terms.Ty) → Each IsColumn ts → is_small (kind_of ts) ≡ true → fit_in 8 ts ≡ true
fits_8 [] c h = refl
fits_8 (terms.Whole n ∷ []) c h = one_fits (terms.Whole n) refl c.0.1
fits_8 (terms.Signed w ∷ []) c h = one_fits (terms.Signed w) refl c.0
fits_8 (terms.Str ∷ []) c h = absurd cc
fits_8 (terms.Arr t ∷ []) c h = absurd cc
fits_8 (terms.MapTy k t ∷ []) c h = absurd cc
fits_8 (terms.Nullable t ∷ []) c h = absurd cc
fits_8 (terms.StateOf k us ∷ []) c h = absurd cc
fits_8 (t ∷ u ∷ ts) c h = absurd (not_small (fit_in 16 (t ∷ u ∷ ts)) h)

module _ (k : KeyKind) (ts : List Ty) (is : k ≡ kind_of (map ty_of ts)) (types : AreKeyTypes ts) where
  pub fits_small : is_small k ≡ true → fit_in 8 (map ty_of ts) ≡ true
  fits_small h = fits_8 (map ty_of ts) (are_columns ts types) (ap is_small (sym is) ∙ h)

  pub fits_NoKey : k ≡ NoKey → fit_in 8 (map ty_of ts) ≡ true
  fits_NoKey e = fits_small (ap is_small e)

  pub fits_Key8 : k ≡ Key8 → fit_in 8 (map ty_of ts) ≡ true
  fits_Key8 e = fits_small (ap is_small e)

  pub fits_Key16 : k ≡ Key16 → fit_in 8 (map ty_of ts) ≡ true
  fits_Key16 e = fits_small (ap is_small e)

  pub fits_Key32 : k ≡ Key32 → fit_in 8 (map ty_of ts) ≡ true
  fits_Key32 e = fits_small (ap is_small e)

  pub fits_Key64 : k ≡ Key64 → fit_in 8 (map ty_of ts) ≡ true
  fits_Key64 e = fits_small (ap is_small e)

pub ruleset small_kinds = (fits_NoKey, fits_Key8, fits_Key16, fits_Key32, fits_Key64)
