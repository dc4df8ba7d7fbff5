use Rattle.std.proofs.Common.{◌++◌, codes}
use Rattle.value_lists.proofs.Fronts.{holds_first, holds_later, holds_none}
use Rattle.refusals.specs.Words.{line_words, with_number}
use Rattle.refusals.proofs.Stopped.{later_err, stopped}
use Rattle.refusals.proofs.error_lines.put_line.Goals as goal

pub returns-in_err-put_with_number-clause-err : goal.returns-in_err-put_with_number-clause-err
returns-in_err-put_with_number-clause-err c =
    stopped c.from_residual.result (holds_first (codes ": " ++ line_words c.args.line c.args.why) c.in_err-put_with_number.ensures.err)

pub returns-in_err-extend_from_slice-clause-err : goal.returns-in_err-extend_from_slice-clause-err
returns-in_err-extend_from_slice-clause-err c =
    stopped c.from_residual-in_err-extend_from_slice.result
    (holds_later (with_number (codes "line ") c.args.line) c.in_ok-put_with_number.ensures.ok (holds_none (codes ": " ++ line_words c.args.line c.args.why) c.in_err-extend_from_slice.ensures.err))

pub returns-clause-err : goal.returns-clause-err
returns-clause-err c =
    later_err c.args.text.now _ (with_number (codes "line ") c.args.line) (codes ": " ++ line_words c.args.line c.args.why) c.put_line_why.new.text c.put_line_why.result c.in_ok-put_with_number.ensures.ok
    (later_err _ _ (codes ": ") (line_words c.args.line c.args.why) c.put_line_why.new.text c.put_line_why.result c.in_ok-extend_from_slice.ensures.ok c.put_line_why.ensures.err)
