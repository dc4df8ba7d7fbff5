use Rattle.std.specs.Fmt.{decimal}
use Rattle.refusals.proofs.Stopped.{later_err}
use Rattle.refusals.proofs.pieces.put_with_number.Goals as goal

pub returns-clause-err : goal.returns-clause-err
returns-clause-err c =
    later_err c.args.text.now _ c.args.words.now (decimal c.args.number) c.put_number.new.text c.put_number.result c.in_ok-extend_from_slice.ensures.ok c.put_number.ensures.err
