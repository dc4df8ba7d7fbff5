-- The program's parameters as the rules see them.
use Rattle.agg_typing.specs.Literals as written
use Rattle.agg_typing.specs.Parameters.{Range}
use Rattle.chain_params.specs.declared.ranges.ResampleRange.{ResampleRange}
use Rattle.value_types.specs.declared.literal.Literal.{Literal}
use Rattle.value_types.specs.declared.literal.Literal.TheVariants as literal

-- a literal
abbrev pub literal_of : Literal → written.Literal
literal_of (literal.Int number) = written.Int number
literal_of (literal.Decimal units places) = written.Decimal units places
literal_of (literal.Text bytes) = written.Text bytes

-- the three parameters of a Resample
abbrev pub range_of : ResampleRange → Range
range_of range = record { start = range.start; end = range.end; step = range.step }
