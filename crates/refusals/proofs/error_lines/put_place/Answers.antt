use Rattle.std.proofs.Common.{◌++◌, codes}
use Rattle.value_lists.proofs.Fronts.{holds_first, holds_later}
use Rattle.refusals.specs.Words.{with_number}
use Rattle.refusals.proofs.Stopped.{later_err, none_err, stopped}
use Rattle.refusals.proofs.error_lines.put_place.Goals as goal

pub returns-in_err-put_with_number-clause-err : goal.returns-in_err-put_with_number-clause-err
returns-in_err-put_with_number-clause-err c =
    stopped c.from_residual.result (holds_first ((with_number (codes " column ") c.args.column) ++ (codes ": ")) c.in_err-put_with_number.ensures.err)

pub returns-in_err-put_with_number-2-clause-err : goal.returns-in_err-put_with_number-2-clause-err
returns-in_err-put_with_number-2-clause-err c =
    stopped c.from_residual-in_err-put_with_number-2.result
    (holds_later (with_number (codes "row ") c.args.row) c.in_ok-put_with_number.ensures.ok (holds_first (codes ": ") c.in_err-put_with_number-2.ensures.err))

pub returns-clause-err : goal.returns-clause-err
returns-clause-err c =
    later_err c.args.text.now _ (with_number (codes "row ") c.args.row) ((with_number (codes " column ") c.args.column) ++ (codes ": ")) c.extend_from_slice.new.self c.extend_from_slice.result c.in_ok-put_with_number.ensures.ok
    (later_err _ _ (with_number (codes " column ") c.args.column) (codes ": ") c.extend_from_slice.new.self c.extend_from_slice.result c.in_ok-put_with_number-2.ensures.ok
    (none_err _ c.extend_from_slice.new.self (codes ": ") c.extend_from_slice.result c.extend_from_slice.ensures.err))
