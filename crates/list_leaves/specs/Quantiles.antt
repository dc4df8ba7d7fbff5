-- The state of quantileExact that a state of the code is: its numbers, put in order.
use Rattle.std.specs.Prelude.{map}
use mir.Syntax.{w8, w16, w32, w64}
use Rattle.agg_terms.specs.Chains.{QuantileExact, Signed, Ty, Whole}
use Rattle.agg_terms.specs.Order.{ascending, compare}
use Rattle.agg_terms.specs.Values.{Num, values_tree}
use Rattle.agg_meaning.specs.Results.{nullable_if}
use Rattle.agg_meaning.specs.States as states
use Rattle.agg_meaning.specs.States.{Held}
use Rattle.column_parts.specs.declared.number_type.NumberType.{NumberType}
use Rattle.column_parts.specs.declared.number_type.NumberType.TheVariants as number
use Rattle.list_leaves.specs.declared.made.Made.{Made}
use Rattle.list_leaves.specs.declared.quantile.QuantileState.{QuantileState}

-- a type of numbers
abbrev pub number_ty : NumberType → Ty
number_ty number.U8 = Whole 8
number_ty number.U16 = Whole 16
number_ty number.U32 = Whole 32
number_ty number.U64 = Whole 64
number_ty number.I8 = Signed w8
number_ty number.I16 = Signed w16
number_ty number.I32 = Signed w32
number_ty number.I64 = Signed w64

-- what a state was made for
abbrev pub made_of : Made → states.Made
made_of m = record { leaf = QuantileExact m.level; result = nullable_if m.nullable (number_ty m.number); arguments = 1 }

abbrev pub held : QuantileState → Held
held s = record { made = made_of s.made; tree = values_tree (ascending compare (map Num s.numbers)) }
