-- What a column takes, and what it is with values more or fewer.
use Rattle.std.specs.Prelude.{◌≡◌, ℕ, pos, true, List, [], ◌∷◌, ◌++◌, take}
use Rattle.std.specs.List.{list_all}
use Rattle.agg_terms.specs.Chains as terms
use Rattle.agg_terms.specs.Fitting.{fits_value}
use Rattle.value_types.specs.Folds.{ty_of, value_of}
use Rattle.value_types.specs.declared.ty.Ty.{Ty}
use Rattle.value_types.specs.declared.value.Value.{Value}
use Rattle.value_types.specs.declared.value.Value.TheVariants as value
use Rattle.value_types.specs.declared.value.Tree.TheVariants as tree
use Rattle.typed_columns.specs.TypedValues.{TypedValues}

-- a value of a type, and a list of them
abbrev pub Fits : Ty → Value → Type 0
Fits ty v = fits_value (ty_of ty) (value_of v) ≡ true

abbrev pub AllFit : Ty → List Value → Type 0
AllFit ty vs = list_all (λ v. fits_value (ty_of ty) (value_of v)) vs ≡ true

-- entries of which each has a key of the one type, and a value of the other
abbrev pub KeysFit : Ty → List (Value × Value) → Type 0
KeysFit ty entries = list_all (λ e. fits_value (ty_of ty) (value_of e.0)) entries ≡ true

abbrev pub EntriesFit : Ty → List (Value × Value) → Type 0
EntriesFit ty entries = list_all (λ e. fits_value (ty_of ty) (value_of e.1)) entries ≡ true

-- no values yet
abbrev pub no_values : Ty → TypedValues
no_values ty = record { ty = ty; values = [] }

-- with these values at the end
abbrev pub with_values : TypedValues → List Value → TypedValues
with_values column more = record { ty = column.ty; values = column.values ++ more }

abbrev pub with_value : TypedValues → Value → TypedValues
with_value column v = with_values column (v ∷ [])

-- the first values alone
abbrev pub trim : ℕ → TypedValues → TypedValues
trim count column = record { ty = column.ty; values = take count column.values }

-- what stands in the place of a value that is NULL, and is never looked at
abbrev pub blank : terms.Ty → Value
blank (terms.Whole n) = value.Num (pos 0)
blank (terms.Signed w) = value.Num (pos 0)
blank terms.Str = value.Bytes []
blank (terms.Arr t) = value.List []
blank (terms.MapTy k t) = value.Pairs []
blank (terms.Nullable t) = value.Nil
blank (terms.StateOf c ts) = value.Cell tree.Empty
