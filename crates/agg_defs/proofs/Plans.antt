-- A plan that agrees with its table is a legal view.
use Rattle.std.proofs.Common.{List, [], ◌∷◌, map}
use Rattle.agg_terms.specs.Chains as terms
use Rattle.agg_terms.specs.Lists.{Each}
use Rattle.agg_terms.specs.Widths.{IsNarrow}
use Rattle.agg_meaning.specs.Laws.{IsLegal}
use Rattle.agg_meaning.specs.Views.{Call}
use Rattle.agg_typing.specs.Promises.{LegalIsLawful}
use Rattle.agg_typing.specs.Views.{IsCallOver}
use Rattle.agg_defs.specs.Plans.{ColumnsAreNarrow, FittingIsLegal, types_in, view_in}
use Rattle.agg_defs.specs.declared.schema.Column.{Column}
use Rattle.value_types.specs.Folds.{ty_of}
use Rattle.value_types.specs.Images.{TypesAreNarrow}

calls_legal : LegalIsLawful → (types : List terms.Ty) (calls : List Call) → Each (IsCallOver types) calls → Each (λ c. IsLegal c.chain c.types) calls
calls_legal law types [] h = tt
calls_legal law types (c ∷ cs) h = (law c.chain c.types h.0.0, calls_legal law types cs h.1)

pub fitting_is_legal : LegalIsLawful → FittingIsLegal
fitting_is_legal law schema plan h = calls_legal law (types_in schema) (view_in plan).calls h.calls

all_narrow : TypesAreNarrow → (columns : List Column) → Each IsNarrow (map (λ (c : Column). ty_of c.ty) columns)
all_narrow law [] = tt
all_narrow law (c ∷ cs) = (law c.ty, all_narrow law cs)

pub columns_are_narrow : TypesAreNarrow → ColumnsAreNarrow
columns_are_narrow law schema = all_narrow law schema.columns
