use Rattle.agg_program.proofs.Ends.{make-ends, none-ends, query-ends, script-ends}
use Rattle.agg_program.proofs.program.run.Goals as goal

pub returns-in-Ok-Query-clause-ends : goal.returns-in-Ok-Query-clause-ends
returns-in-Ok-Query-clause-ends g c =
    query-ends g.S.Source.left _ _ _ _ _ _ c.in-Ok-Query.threads c.in-Ok-Query.pieces c.in-Ok-Query.field-0 c.in-Ok-Query.field-0-is c.in-Ok-Query.ensures.command c.query.ensures.ends

pub returns-in-Ok-Script-clause-ends : goal.returns-in-Ok-Script-clause-ends
returns-in-Ok-Script-clause-ends g c =
    script-ends g.S.Source.left _ _ _ _ _ _ c.in-Ok-Script.field-0-0 c.in-Ok-Script.field-0 c.in-Ok-Script.field-0-is c.in-Ok-Script.ensures.command c.refuse_words.ensures

pub returns-in-Ok-Make-clause-ends : goal.returns-in-Ok-Make-clause-ends
returns-in-Ok-Make-clause-ends g c =
    make-ends g.S.Source.left _ _ _ _ _ _ c.in-Ok-Make.field-0-0 c.in-Ok-Make.field-0-1 c.in-Ok-Make.field-0 c.in-Ok-Make.field-0-is c.in-Ok-Make.ensures.command c.refuse_words-in-Ok-Make.ensures

pub returns-in-Err-clause-ends : goal.returns-in-Err-clause-ends
returns-in-Err-clause-ends g c = none-ends g.S.Source.left _ _ _ _ _ _ c.in-Err.ensures.command c.refuse_words-in-Err.ensures
