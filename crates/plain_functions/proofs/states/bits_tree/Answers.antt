use Rattle.std.proofs.Common.{refl}
use Rattle.std.specs.Prelude.{Some}
use Rattle.value_types.specs.Folds.{ty_of}
use Rattle.plain_rows.specs.Operations.{op_of}
use Rattle.plain_rows.specs.Rows.{rows_of}
use Rattle.plain_rows.proofs.BitRows.{folded_within}
use Rattle.plain_functions.proofs.states.bits_tree.Goals as goal

pub from_bits-requires : goal.from_bits-requires
from_bits-requires c =
    folded_within (op_of c.args.operation) (ty_of c.first_type-first.result.now) (rows_of c.args.rows.now) (Some c.in-Some.bits) c.in-Some.bits c.in-Some.ensures refl
