-- Which fold each bit function is.
use Rattle.agg_terms.specs.Chains as terms
use Rattle.plain_rows.specs.declared.bits.Operation.{Operation}
use Rattle.plain_rows.specs.declared.bits.Operation.TheVariants as operation

abbrev pub op_of : Operation → terms.BitOp
op_of operation.And = terms.And
op_of operation.Or = terms.Or
op_of operation.Xor = terms.Xor
