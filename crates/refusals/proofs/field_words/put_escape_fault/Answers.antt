use Rattle.refusals.proofs.field_words.put_escape_fault.Goals as goal

pub returns-in-BadHex-clause-err : goal.returns-in-BadHex-clause-err
returns-in-BadHex-clause-err c =
    rw c.in-BadHex.is c.put_at-in-BadHex.ensures.err
