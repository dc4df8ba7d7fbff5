-- The types of the arguments at a link, from the types of the call and the steps inward.
use Rattle.std.specs.Prelude.{List, map}
use Rattle.agg_terms.specs.Chains as terms
use Rattle.agg_terms.specs.Types.{element, map_part}
use Rattle.value_types.specs.declared.ty.Ty.{Ty}
use Rattle.value_types.specs.Folds.{ty_of}
use Rattle.agg_values.specs.declared.links.Peels.{Peels, Whole, Element', Item'}

-- a type after these steps
abbrev pub peeled : Peels → terms.Ty → terms.Ty
peeled Whole ty = ty
peeled (Element' _ outer) ty = element (peeled outer ty)
peeled (Item' _ outer) ty = map_part (peeled outer ty)

-- the types of all arguments
abbrev pub peeled_types : Peels → List Ty → List terms.Ty
peeled_types peels types = map (λ ty. peeled peels (ty_of ty)) types
