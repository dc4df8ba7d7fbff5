-- An entry of a map in the definitions.
use Rattle.agg_terms.specs.Values as family
use Rattle.value_types.specs.declared.value.Value.{Value}
use Rattle.value_types.specs.Folds.{value_of}

abbrev pub image_of : Value × Value → family.Value × family.Value
image_of e = (value_of e.0, value_of e.1)
