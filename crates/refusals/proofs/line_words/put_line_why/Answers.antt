use Rattle.refusals.proofs.line_words.put_line_why.Goals as goal

pub returns-in-UnknownColumn-clause-err : goal.returns-in-UnknownColumn-clause-err
returns-in-UnknownColumn-clause-err c =
    rw c.in-UnknownColumn.is c.put_at-in-UnknownColumn.ensures.err

pub returns-in-UnknownView-clause-ok : goal.returns-in-UnknownView-clause-ok
returns-in-UnknownView-clause-ok c =
    rw c.in-UnknownView.is c.put_at-in-UnknownView.ensures.ok

pub returns-in-UnknownView-clause-err : goal.returns-in-UnknownView-clause-err
returns-in-UnknownView-clause-err c =
    rw c.in-UnknownView.is c.put_at-in-UnknownView.ensures.err

pub returns-in-KeyType-clause-ok : goal.returns-in-KeyType-clause-ok
returns-in-KeyType-clause-ok c =
    rw c.in-KeyType.is c.put_at-in-KeyType.ensures.ok

pub returns-in-KeyType-clause-err : goal.returns-in-KeyType-clause-err
returns-in-KeyType-clause-err c =
    rw c.in-KeyType.is c.put_at-in-KeyType.ensures.err

pub returns-in-Lines-clause-ok : goal.returns-in-Lines-clause-ok
returns-in-Lines-clause-ok c =
    rw c.in-Lines.is c.extend_from_slice-in-Lines.ensures.ok

pub returns-in-SessionOrder-clause-ok : goal.returns-in-SessionOrder-clause-ok
returns-in-SessionOrder-clause-ok c =
    rw c.in-SessionOrder.is c.put_at-in-SessionOrder.ensures.ok

pub returns-in-SessionOrder-clause-err : goal.returns-in-SessionOrder-clause-err
returns-in-SessionOrder-clause-err c =
    rw c.in-SessionOrder.is c.put_at-in-SessionOrder.ensures.err
