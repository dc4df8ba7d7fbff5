-- The types that reach a link.
use Rattle.std.specs.Prelude.{List, map}
use Rattle.agg_terms.specs.Chains as terms
use Rattle.agg_terms.specs.Types.{element, map_part}
use Rattle.agg_defs.specs.declared.reached.Reached.{Reached}
use Rattle.agg_defs.specs.declared.reached.Passed.{Passed}
use Rattle.value_types.specs.Folds.{ty_of}

-- these types in the definitions
abbrev pub reached_types : List Reached → List terms.Ty
reached_types args = map (λ (a : Reached). ty_of a.ty.now) args

-- the part of a type that a suffix passes inward
abbrev pub part_of : Passed → terms.Ty → terms.Ty
part_of Passed.Element = element
part_of Passed.MapValue = map_part
