use Rattle.refusals.proofs.field_words.put_state_fault.Goals as goal

pub returns-in-Version-clause-err : goal.returns-in-Version-clause-err
returns-in-Version-clause-err c =
    rw c.in-Version.is c.put_with_number.ensures.err

pub returns-in-Long-clause-ok : goal.returns-in-Long-clause-ok
returns-in-Long-clause-ok c =
    rw c.in-Long.is c.put_at.ensures.ok

pub returns-in-Long-clause-err : goal.returns-in-Long-clause-err
returns-in-Long-clause-err c =
    rw c.in-Long.is c.put_at.ensures.err

pub returns-in-NotCanonical-clause-ok : goal.returns-in-NotCanonical-clause-ok
returns-in-NotCanonical-clause-ok c =
    rw c.in-NotCanonical.is c.put_at-in-NotCanonical.ensures.ok

pub returns-in-NotCanonical-clause-err : goal.returns-in-NotCanonical-clause-err
returns-in-NotCanonical-clause-err c =
    rw c.in-NotCanonical.is c.put_at-in-NotCanonical.ensures.err
