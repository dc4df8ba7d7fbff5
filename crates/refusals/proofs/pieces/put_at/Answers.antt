use Rattle.std.proofs.Common.{codes}
use Rattle.refusals.specs.Words.{with_number}
use Rattle.refusals.proofs.Stopped.{later_err}
use Rattle.refusals.proofs.pieces.put_at.Goals as goal

pub returns-clause-err : goal.returns-clause-err
returns-clause-err c =
    later_err c.args.text.now _ c.args.words.now (with_number (codes " at ") c.args.place) c.put_with_number.new.text c.put_with_number.result c.in_ok-extend_from_slice.ensures.ok c.put_with_number.ensures.err
