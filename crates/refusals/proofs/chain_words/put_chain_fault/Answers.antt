use Rattle.refusals.proofs.chain_words.put_chain_fault.Goals as goal

pub returns-in-BadParam-clause-err : goal.returns-in-BadParam-clause-err
returns-in-BadParam-clause-err c =
    rw c.in-BadParam.is c.put_with_number.ensures.err

pub returns-in-BadPattern-clause-ok : goal.returns-in-BadPattern-clause-ok
returns-in-BadPattern-clause-ok c =
    rw c.in-BadPattern.is c.put_at.ensures.ok

pub returns-in-BadPattern-clause-err : goal.returns-in-BadPattern-clause-err
returns-in-BadPattern-clause-err c =
    rw c.in-BadPattern.is c.put_at.ensures.err

pub returns-in-ArgType-clause-ok : goal.returns-in-ArgType-clause-ok
returns-in-ArgType-clause-ok c =
    rw c.in-ArgType.is c.put_with_number-in-ArgType.ensures.ok

pub returns-in-ArgType-clause-err : goal.returns-in-ArgType-clause-err
returns-in-ArgType-clause-err c =
    rw c.in-ArgType.is c.put_with_number-in-ArgType.ensures.err

pub returns-in-WrongState-clause-ok : goal.returns-in-WrongState-clause-ok
returns-in-WrongState-clause-ok c =
    rw c.in-WrongState.is c.put_with_number-in-WrongState.ensures.ok

pub returns-in-WrongState-clause-err : goal.returns-in-WrongState-clause-err
returns-in-WrongState-clause-err c =
    rw c.in-WrongState.is c.put_with_number-in-WrongState.ensures.err
