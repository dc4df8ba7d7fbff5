use Rattle.std.proofs.Common.{◌++◌, codes}
use Rattle.value_lists.proofs.Fronts.{holds_first, holds_later}
use Rattle.refusals.specs.Words.{status_words}
use Rattle.refusals.proofs.Stopped.{later_err, none_err, stopped}
use Rattle.refusals.proofs.error_lines.put_error_line.Goals as goal

pub returns-in_err-put_status-clause-err : goal.returns-in_err-put_status-clause-err
returns-in_err-put_status-clause-err c =
    stopped c.from_residual-in_err-put_status.result
    (holds_later (codes "error: ") c.in_ok-extend_from_slice.ensures.ok (holds_first (codes "\n") c.in_err-put_status.ensures.err))

pub returns-clause-err : goal.returns-clause-err
returns-clause-err c =
    later_err c.args.text.now _ (codes "error: ") ((status_words c.args.status.now) ++ (codes "\n")) c.extend_from_slice-2.new.self c.extend_from_slice-2.result c.in_ok-extend_from_slice.ensures.ok
    (later_err _ _ (status_words c.args.status.now) (codes "\n") c.extend_from_slice-2.new.self c.extend_from_slice-2.result c.in_ok-put_status.ensures.ok
    (none_err _ c.extend_from_slice-2.new.self (codes "\n") c.extend_from_slice-2.result c.extend_from_slice-2.ensures.err))
