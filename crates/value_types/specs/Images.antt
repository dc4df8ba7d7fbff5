-- What the types of the code are in the definitions.
use Rattle.agg_terms.specs.Widths.{HasWidths, IsNarrow}
use Rattle.value_types.specs.declared.ty.Ty.{Ty}
use Rattle.value_types.specs.Folds.{ty_of}

-- the numbers of each type have 8 to 64 bits, at every depth
abbrev pub TypesHaveWidths : Type 0
TypesHaveWidths = (t : Ty) → HasWidths (ty_of t)

-- and so each type is as narrow as the laws of rows and of fields ask
abbrev pub TypesAreNarrow : Type 0
TypesAreNarrow = (t : Ty) → IsNarrow (ty_of t)
