use Rattle.std.proofs.Common.{arith}
use Rattle.std.proofs.lemmas.Bool.Decides.{nat_tests}
use Rattle.quick_rows.proofs.FirstLaws.{filled_first}
use Rattle.quick_rows.proofs.field.take_nullable.Goals as goal

pub returns-else-begins_with_backslash : goal.returns-else-begins_with_backslash
returns-else-begins_with_backslash c =
    filled_first c.args.column.now c.take_filled.new.column c.args.text.now c.take_filled.result (grind (arith, nat_tests)) c.take_filled.ensures
