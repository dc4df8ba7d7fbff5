-- The types at a link as the rules see them.
use Rattle.std.specs.Prelude.{Bool}
use Rattle.agg_terms.specs.Chains as terms
use Rattle.agg_terms.specs.Types.{element, map_part}
use Rattle.agg_typing.specs.Kinds as rules
use Rattle.chain_types.specs.declared.arg_types.Arg.{Arg}
use Rattle.chain_types.specs.declared.arg_types.Part.{Part}
use Rattle.chain_types.specs.declared.kinds.Kind.{Kind}
use Rattle.value_types.specs.Folds.{ty_of}

-- a type with the number of its argument
abbrev pub arg_of : Arg → rules.Arg
arg_of a = (a.number, ty_of a.ty.now)

-- whether a type is of a kind
abbrev pub has : Kind → terms.Ty → Bool
has Kind.Number = rules.is_number
has Kind.NumberOrText = rules.is_number_or_text
has Kind.Time = rules.is_time
has Kind.Condition = rules.is_condition
has Kind.Array = rules.is_array
has Kind.Map = rules.is_map
has Kind.Stateless = rules.holds_no_state

-- the part of a type that a suffix passes inward
abbrev pub part_of : Part → terms.Ty → terms.Ty
part_of Part.Element = element
part_of Part.MapValue = map_part
